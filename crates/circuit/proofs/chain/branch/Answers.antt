-- `chain::branch` meets its contract: else where the condition is 0.
use Rattle.std.proofs.Common.{◌≡◌, sym, subst, arith}
use Rattle.table.specs.Bytes.{next}
use Rattle.table.specs.Working.{IsNode}
use Rattle.table.proofs.Reading.{told}
use Rattle.circuit.proofs.ChainLaws.{ok}
use Rattle.circuit.proofs.PlanLaws.{branch_else, branch_then}
use Rattle.circuit.proofs.chain.branch.Goals as goal
use Rattle.circuit.proofs.chain.branch.Lts as lts
use Rattle.circuit.proofs.chain.branch.Reads as reads
use Rattle.circuit.proofs.chain.branch.Tie as tie

abbrev AfterNext : Type 0
AfterNext = lts.After-next tie.the-claims reads.Pre reads.Post

read : (c : AfterNext) → c.next-b.result.0 ≡ next c.args.design.now.table.now c.args.a.0
read c = told _ _ c.args.design.now.read _ c.requires.0 5 _ (omega arith) c.next-b.ensures

pub value_at-requires : goal.value_at-requires
value_at-requires c = omega (arith, c.requires.0.1, (ok _ c.args.design.now.read.taken).n_high)

pub returns-then-value_at-eq0 : goal.returns-then-value_at-eq0
returns-then-value_at-eq0 c = let p = c.requires in
    let i = subst (IsNode _) (sym (read (search))) p.1 in
    branch_else _ _ _ _ _ c.value_at.ensures (read (search)) c.if-value_at-eq0.true _ (told _ _ c.args.design.now.read _ i 5 _
    (omega arith) c.next.ensures)

pub returns : goal.returns
returns c = branch_then _ _ _ _ _ c.value_at.ensures (read (search)) c.if-value_at-eq0.false
