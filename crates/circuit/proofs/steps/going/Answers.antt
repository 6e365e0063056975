-- `steps::going` meets its contract
use Rattle.circuit.proofs.StepsLaws.{going_on, going_spent}
use Rattle.circuit.proofs.steps.going.Goals as goal

pub returns-then-taken-budget : goal.returns-then-taken-budget
returns-then-taken-budget c = going_on _ _ _ _ c.if-taken-budget.true c.status_of.ensures

pub returns : goal.returns
returns c = going_spent _ _ _ c.if-taken-budget.false
