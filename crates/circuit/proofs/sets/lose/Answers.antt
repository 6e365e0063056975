-- `sets::lose` meets its contract: each of the eight words is a call of the closure
use Rattle.std.proofs.Common.{not, ◌&&◌, rules}
use lib.Bits.{bit_xor, bit_and}
use Rattle.circuit.proofs.PackedLaws.{packs_two, without_bit}
use Rattle.circuit.proofs.sets.lose.Goals as goal

pub returns : goal.returns
returns c =
    packs_two (λ x y. bit_xor x (bit_and x y)) (λ p q. p && not q) without_bit _ _ _ c.from_fn.ensures.items.long (search rules)
