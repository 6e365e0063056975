use Rattle.std.proofs.Common.{get_or, sym, arith}
use Rattle.list.proofs.WordLaws.{adds_by, packed_bit}
use Rattle.list.proofs.bits.join.Goals as goal

pub returns : goal.returns
returns c = let inv = c.loop-i.invariant in
    adds_by (λ j. get_or c.args.other.now j 0) _ _ _ inv.0 (λ j h. inv.1.done j (omega (arith, inv.0)))
    (λ m b. sym (packed_bit _ m))
