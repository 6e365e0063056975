use Rattle.std.proofs.Common.{arith, rules}
use Rattle.table.proofs.Reading.{told_last}
use Rattle.rules.specs.State.{State512}
use Rattle.circuit.specs.Meaning.{state_as}
use Rattle.circuit.proofs.QueryLaws.{none_yet, none_more, one_more_lem, some_node, query_done, query_none, query_found}
use Rattle.circuit.proofs.budget.query.Goals as goal
use Rattle.circuit.proofs.budget.query.Lts as lts
use Rattle.circuit.proofs.budget.query.Reads as reads
use Rattle.circuit.proofs.budget.query.Tie as tie

abbrev Start : Type 0
Start = lts.Start tie.the-claims reads.Pre reads.Post goal.the-invariant-loop-n goal.the-decreases-loop-n

abbrev state : Start → State512
state s = state_as s.args.status.now s.args.second.now s.args.value.now s.args.registers.now s.args.occupant.now

pub returns-then-status_at-eq3 : goal.returns-then-status_at-eq3
returns-then-status_at-eq3 c = query_done _ _ c.requires.0 (state (search)) c.requires.1 _ _ c.top-top.ensures.0 c.status_at.ensures
    c.if-status_at-eq3.true

pub loop-n-init : goal.loop-n-init
loop-n-init c = none_yet _ (state (search))

pub returns-then-is_none : goal.returns-then-is_none
returns-then-is_none c = query_found _ _ c.requires.0 (state (search)) c.requires.1 _ _ c.top-top.ensures.0 c.status_at.ensures
    c.if-status_at-eq3.false _ c.loop-n.auto.n
    (one_more_lem _ (state (search)) _ _ c.loop-n.auto.n c.loop-n.invariant _ (c.why_not.ensures _) (search rules)
    (omega (arith, told_last _ _ c.args.design.now.read _ c.last-last.ensures)))

pub loop-n-preserved : goal.loop-n-preserved
loop-n-preserved c = none_more _ (state (search)) _ _ c.loop-n.auto.n c.loop-n.invariant _ (c.why_not.ensures _) (search rules)

-- no node is left
pub returns-else-status_at-eq3 : goal.returns-else-status_at-eq3
returns-else-status_at-eq3 c = absurd (omega (
  arith,
  some_node _ c.args.design.now.read.taken,
  told_last _ _ c.args.design.now.read
      _ c.last-last.ensures,
))

pub returns-else-is_none : goal.returns-else-is_none
returns-else-is_none c = query_none _ _ c.requires.0 (state (search)) c.requires.1 _ _ c.top-top.ensures.0 c.status_at.ensures
    c.if-status_at-eq3.false _
    (none_more _ (state (search)) _ _ c.loop-n.auto.n c.loop-n.invariant _ (c.why_not.ensures _) (search rules))
    (omega (arith, told_last _ _ c.args.design.now.read _ c.last-last.ensures))
