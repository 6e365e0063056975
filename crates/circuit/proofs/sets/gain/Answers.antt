-- `sets::gain` meets its contract: each of the eight words is a call of the closure
use Rattle.std.proofs.Common.{◌||◌, rules}
use lib.Bits.{bit_or}
use Rattle.list.proofs.BitLaws.{or_bit}
use Rattle.circuit.proofs.PackedLaws.{packs_two}
use Rattle.circuit.proofs.sets.gain.Goals as goal

pub returns : goal.returns
returns c = packs_two bit_or (λ p q. p || q) or_bit _ _ _ c.from_fn.ensures.items.long (search rules)
