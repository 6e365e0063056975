-- `drive` meets its contract: the state's arrays are lent, its occupants as plain numbers.
use Rattle.circuit.specs.Meaning.{lists_of}
use Rattle.circuit.proofs.LentLaws.{driven_by_value}
use Rattle.circuit.proofs.drive.Goals as goal

pub returns : goal.returns
returns c = rw c.named-state.ensures (driven_by_value _ _ (lists_of c.args.s) c.args.budget c.drive-ended.result _ _
    (rw c.plain-occupant.ensures at c.drive-ended.ensures))
