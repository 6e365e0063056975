-- `sets::mark` meets its contract
use Rattle.circuit.proofs.PackedLaws.{marks_by, bit_in, bit_out}
use Rattle.circuit.proofs.sets.mark.Goals as goal

pub returns-then-here : goal.returns-then-here
returns-then-here c = marks_by _ _ _ _ c.told-set c.requires (λ j. rw (c.bit-y.ensures, c.if-here.true) (bit_in _ _ j))

pub returns : goal.returns
returns c = marks_by _ _ _ _ c.told-set c.requires (λ j. rw (c.bit-y.ensures, c.if-here.false) (bit_out _ _ j))
