-- `plan::of_busy` meets its contract, by kind.
use Rattle.std.proofs.Common.{◌≡◌, sym, ◌∙◌, arith}
use Rattle.table.specs.Bytes.{kind}
use Rattle.table.proofs.Reading.{told}
use Rattle.circuit.specs.declared.plan.Plan.TheVariants as Plan
use Rattle.circuit.proofs.MoveLaws.{busy_plans, leaf_none}
use Rattle.circuit.proofs.plan.of_busy.Goals as goal
use Rattle.circuit.proofs.plan.of_busy.Lts as lts
use Rattle.circuit.proofs.plan.of_busy.Reads as reads
use Rattle.circuit.proofs.plan.of_busy.Tie as tie

abbrev AfterKind : Type 0
AfterKind = lts.After-kind tie.the-claims reads.Pre reads.Post

read : (c : AfterKind) → c.kind-kind.result ≡ kind c.args.design.now.table.now c.args.n.0
read c = told _ _ c.args.design.now.read _ c.requires 0 _ (omega arith) c.kind-kind.ensures

pub of_primitive-requires : goal.of_primitive-requires
of_primitive-requires c = let p = c.requires in
    (p, sym (read (search)) ∙ c.in-3.is)

pub of_call-requires : goal.of_call-requires
of_call-requires c = let p = c.requires in
    (p, sym (read (search)) ∙ c.in-4.is)

pub of_if-requires : goal.of_if-requires
of_if-requires c = let p = c.requires in
    (p, sym (read (search)) ∙ c.in-5.is)

pub of_let-requires : goal.of_let-requires
of_let-requires c = let p = c.requires in
    (p, sym (read (search)) ∙ c.in-6.is)

pub returns-in-3 : goal.returns-in-3
returns-in-3 c = let p = c.requires in
    λ a d e z. busy_plans _ c.args.design.now.read.taken _ p a _ _ d e c.of_primitive.result z (c.of_primitive.ensures a _ d e)

pub returns-in-4 : goal.returns-in-4
returns-in-4 c = let p = c.requires in
    λ a d e z. busy_plans _ c.args.design.now.read.taken _ p a _ _ d e c.of_call.result z (c.of_call.ensures a d e)

pub returns-in-5 : goal.returns-in-5
returns-in-5 c = let p = c.requires in
    λ a d e z. busy_plans _ c.args.design.now.read.taken _ p a _ _ d e c.of_if.result z (c.of_if.ensures a d e)

pub returns-in-6 : goal.returns-in-6
returns-in-6 c = let p = c.requires in
    λ a d e z. busy_plans _ c.args.design.now.read.taken _ p a _ _ d e c.of_let.result z (c.of_let.ensures a d e)

pub returns-in_default : goal.returns-in_default
returns-in_default c = let p = c.requires in
    let other = c.in_default.in_default-own.rest in
    λ a d e z. busy_plans _ c.args.design.now.read.taken _ p a _ _ d e Plan.Begins z
    (λ busy h. leaf_none _ c.args.design.now.read.taken _ p a _ _ d e h busy
    (λ q. other.0.0.0.1 (read (search) ∙ q)) (λ q. other.0.0.1 (read (search) ∙ q)) (λ q. other.0.1 (read (search) ∙ q))
    (λ q. other.1 (read (search) ∙ q)))
