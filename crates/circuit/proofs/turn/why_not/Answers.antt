-- `turn::why_not` meets its contract: by the sort of the step, and whether the callee is occupied.
use Rattle.std.proofs.Common.{ℕ, List, sym}
use Rattle.rules.specs.State.{State512}
use Rattle.circuit.specs.Meaning.{state_as}
use Rattle.circuit.proofs.WhyLaws.{why_held, why_enters}
use Rattle.circuit.proofs.turn.why_not.Goals as goal
use Rattle.circuit.proofs.turn.why_not.Lts as lts
use Rattle.circuit.proofs.turn.why_not.Reads as reads
use Rattle.circuit.proofs.turn.why_not.Tie as tie

abbrev Start : Type 0
Start = lts.Start tie.the-claims reads.Pre reads.Post

-- the state that comes in, whatever its registers
abbrev state : Start → List ℕ → State512
state s d = state_as s.args.status.now s.args.second.now s.args.value.now d s.args.occupant.now

pub returns-then-barred : goal.returns-then-barred
returns-then-barred c = λ d. why_held _ (state (search) d) _ _ (sym (c.in-IfFree.ensures d _)) _
    (c.barred.ensures c.args.status.now c.args.second.now c.args.value.now d) c.if-barred.true _ c.why_blocked.ensures

pub returns-else-barred : goal.returns-else-barred
returns-else-barred c = λ d. why_enters _ (state (search) d) _ _ (sym (c.in-IfFree.ensures d _)) _
    (c.barred.ensures c.args.status.now c.args.second.now c.args.value.now d) c.if-barred.false
