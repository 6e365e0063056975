-- `Kept::meet` meets its contract. The invariant: what is common in the words up to i is joined to the conflicts.
use Rattle.std.proofs.Common.{◌≡◌, length, get_or}
use lib.Bits.{bit_or, bit_and}
use Rattle.list.proofs.Entrywise.{Upto}
use Rattle.list.proofs.kept.Kept.meet.Given as goal

abbrev pub invariant-loop-i : goal.invariant-loop-i
invariant-loop-i l = (length l.x-items ≡ 8)
    × Upto (λ j. bit_or (get_or l.fn.self.conflicts j 0) (bit_and (get_or l.own j 0) (get_or l.all j 0))) l.fn.self.conflicts l.x-items l.i
