-- `run` meets its contract: the state's arrays are lent, its occupants as plain numbers.
use Rattle.circuit.specs.Meaning.{lists_of}
use Rattle.circuit.proofs.LentLaws.{ran_by_value}
use Rattle.circuit.proofs.run.Goals as goal

pub returns : goal.returns
returns c = rw c.named-state.ensures (ran_by_value _ _ (lists_of c.args.s) c.args.nodes.now c.run-halt.result _ _
    (rw c.plain-occupant.ensures at c.run-halt.ensures))
