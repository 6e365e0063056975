-- `tracking::arm` meets its contract, by kind.
use Rattle.std.proofs.Common.{◌≡◌, sym, ◌∙◌, arith}
use Rattle.table.specs.Bytes.{kind, first}
use Rattle.table.proofs.Reading.{told}
use Rattle.circuit.proofs.ActBy.{three_in}
use Rattle.circuit.proofs.ChainLaws.{ok, first_in_lem}
use Rattle.circuit.proofs.TrackLaws.{arm_if, arm_other}
use Rattle.circuit.proofs.tracking.arm.Goals as goal
use Rattle.circuit.proofs.tracking.arm.Lts as lts
use Rattle.circuit.proofs.tracking.arm.Reads as reads
use Rattle.circuit.proofs.tracking.arm.Tie as tie

abbrev AfterFirst : Type 0
AfterFirst = lts.After-first tie.the-claims reads.Pre reads.Post

-- what was read is the node's kind and first child
kinds : (c : AfterFirst) → c.kind-kind.result ≡ kind c.args.design.now.table.now c.args.n.0
kinds c = told _ _ c.args.design.now.read _ c.requires 0 _ (omega arith) c.kind-kind.ensures

firsts : (c : AfterFirst) → c.first-c.result.0 ≡ first c.args.design.now.table.now c.args.n.0
firsts c = told _ _ c.args.design.now.read _ c.requires 4 _ (omega arith) c.first-c.ensures

pub place-requires : goal.place-requires
place-requires c = let p = c.requires in
    let i = (three_in _ c.args.design.now.read.taken _ p (sym (kinds (search)) ∙ c.if-kind-eq5.true)).0 in
    (omega (arith, i.0, firsts (search)), omega (arith, i.1, firsts (search), (ok _ c.args.design.now.read.taken).n_high))

pub returns-then-kind-eq5 : goal.returns-then-kind-eq5
returns-then-kind-eq5 c =
    (arm_if _ _ _ (kinds (search)) _ (firsts (search)) _ _ c.if-kind-eq5.true c.place.ensures.0, c.place.ensures.1)

pub arm_all-requires : goal.arm_all-requires
arm_all-requires c = let p = c.requires in
    (first_in_lem _ c.args.design.now.read.taken _ p _ (firsts (search)))

pub returns : goal.returns
returns c =
    (arm_other _ _ _ (kinds (search)) _ (firsts (search)) _ _ c.if-kind-eq5.false c.arm_all.ensures.0, c.arm_all.ensures.1)
