-- `plan::of_open` meets its contract, by kind.
use Rattle.std.proofs.Common.{◌≡◌, sym, ◌∙◌, arith}
use Rattle.table.specs.Bytes.{kind, first}
use Rattle.table.proofs.Reading.{told, told_word, told_low}
use Rattle.circuit.proofs.ActBy.{own_in, bound_in}
use Rattle.circuit.proofs.ChainLaws.{ok}
use Rattle.circuit.proofs.PlanLaws.{acts_open, open_const, open_param, open_bound, open_other, open_parent}
use Rattle.circuit.proofs.plan.of_open.Goals as goal
use Rattle.circuit.proofs.plan.of_open.Lts as lts
use Rattle.circuit.proofs.plan.of_open.Reads as reads
use Rattle.circuit.proofs.plan.of_open.Tie as tie

abbrev AfterKind : Type 0
AfterKind = lts.After-kind tie.the-claims reads.Pre reads.Post

kinded : (c : AfterKind) → c.kind-kind.result ≡ kind c.args.design.now.table.now c.args.n.0
kinded c = told _ _ c.args.design.now.read _ c.requires 0 _ (omega arith) c.kind-kind.ensures

pub register_at-requires : goal.register_at-requires
register_at-requires c = let p = c.requires in
    omega (
      arith,
      told _ _ c.args.design.now.read _ p 6 _ (omega arith) c.owner-f.ensures,
      (own_in _ c.args.design.now.read.taken _ p).1,
      (ok _ c.args.design.now.read.taken
          ).f_high,
    )

pub value_at-requires : goal.value_at-requires
value_at-requires c = let p = c.requires in
    let i = bound_in _ c.args.design.now.read.taken _ p (sym (kinded (search)) ∙ c.in-7.is) in
    let n = (ok _ c.args.design.now.read.taken).n_high in
    omega (arith, told_low _ _ c.args.design.now.read _ p (omega (arith, i.1, n)) _ c.definiens.ensures, i.1, n)

-- with children
pub returns-then-c-ne0 : goal.returns-then-c-ne0
returns-then-c-ne0 c = let p = c.requires in
    let some : first c.args.design.now.table.now c.args.n.0 ≡ 0 → ⊥ =
    λ z. c.if-c-ne0.true (told _ _ c.args.design.now.read _ p 4 _ (omega arith) c.first-c.ensures ∙ z) in
    λ a b e h g. acts_open _ c.args.design.now.read.taken _ p a b _ _ e _ h (open_parent _ _ _ c.args.design.now.read.taken _ p some)

pub returns-in-1 : goal.returns-in-1
returns-in-1 c = let p = c.requires in
    λ a b e h g. acts_open _ c.args.design.now.read.taken _ p a b _ _ e _ h (open_const _ _ _ _ _ (kinded (search)) c.in-1.is _
    (told_word _ _ c.args.design.now.read _ p _ c.word.ensures))

pub returns-in-2 : goal.returns-in-2
returns-in-2 c = let p = c.requires in
    λ a b e h g. acts_open _ c.args.design.now.read.taken _ p a b _ _ e _ h (open_param _ _ _ _ _ (kinded (search)) c.in-2.is _ _ _
    (told _ _ c.args.design.now.read _ p 1 _ (omega arith) c.extra-i.ensures) (told _ _ c.args.design.now.read _ p 6 _
    (omega arith) c.owner-f.ensures)
    c.register_at.ensures)

pub returns-in-7 : goal.returns-in-7
returns-in-7 c = let p = c.requires in
    let i = bound_in _ c.args.design.now.read.taken _ p (sym (kinded (search)) ∙ c.in-7.is) in
    λ a b e h g. acts_open _ c.args.design.now.read.taken _ p a b _ _ e _ h (open_bound _ _ _ _ _ (kinded (search)) c.in-7.is _ _
    (told_low _ _ c.args.design.now.read _ p (omega (arith, i.1, (ok _ c.args.design.now.read.taken).n_high))
    _ c.definiens.ensures) c.value_at.ensures)

pub returns-in_default : goal.returns-in_default
returns-in_default c = let p = c.requires in
    let other = c.in_default.in_default-own.rest in
    λ a b e h g. acts_open _ c.args.design.now.read.taken _ p a b _ _ e _ h
    (open_other _ _ _ _ _ (kinded (search)) other.0.0.1 other.0.1 other.1)
