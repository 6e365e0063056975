-- `sets::common` meets its contract: each of the eight words is a call of the closure
use Rattle.std.proofs.Common.{◌&&◌, rules}
use lib.Bits.{bit_and}
use Rattle.list.proofs.BitLaws.{and_bit}
use Rattle.circuit.proofs.PackedLaws.{packs_two}
use Rattle.circuit.proofs.sets.common.Goals as goal

pub returns : goal.returns
returns c = packs_two bit_and (λ p q. p && q) and_bit _ _ _ c.from_fn.ensures.items.long (search rules)
