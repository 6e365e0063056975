-- `steps::take` meets its contract: the plan is the node's move, and it is made.
use Rattle.circuit.proofs.steps.take.Goals as goal

pub perform-requires : goal.perform-requires
perform-requires c = (c.requires.0, c.requires.1, c.plan_at-plan.ensures _ c.requires.2)

pub returns : goal.returns
returns c = (c.plan_at-plan.ensures _ c.requires.2, c.perform.ensures)
