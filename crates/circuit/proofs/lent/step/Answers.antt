-- `lent::step` meets its contract: the table and its tags, then the rest.
use Rattle.std.proofs.Common.{sym, ◌∙◌}
use Rattle.rules.specs.State.{State512}
use Rattle.circuit.specs.Meaning.{state_as}
use Rattle.circuit.proofs.TurnLaws.{step_is, step_turned}
use Rattle.circuit.proofs.lent.step.Goals as goal
use Rattle.circuit.proofs.lent.step.Lts as lts
use Rattle.circuit.proofs.lent.step.Reads as reads
use Rattle.circuit.proofs.lent.step.Tie as tie

abbrev Start : Type 0
Start = lts.Start tie.the-claims reads.Pre reads.Post

abbrev state : Start → State512
state s = state_as s.args.status.now s.args.second.now s.args.value.now s.args.registers.now s.args.occupant.now

pub returns-in-Err : goal.returns-in-Err
returns-in-Err c = step_turned _ _ _ _ (sym c.in-Err.ensures.told) (state (search)) c.args.n.0

pub returns-in-Ok : goal.returns-in-Ok
returns-in-Ok c = c.step.ensures ∙ sym (step_is _ _ _ _ (sym c.in-Ok.ensures.told) (state (search)) c.args.n.0)
