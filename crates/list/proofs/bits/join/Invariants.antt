-- `bits::join` meets its contract. The invariant: the words up to i are joined, the others as they were.
use Rattle.std.proofs.Common.{◌≡◌, length, get_or}
use lib.Bits.{bit_or}
use Rattle.list.proofs.Entrywise.{Upto}
use Rattle.list.proofs.bits.join.Given as goal

abbrev pub invariant-loop-i : goal.invariant-loop-i
invariant-loop-i l = (length l.set ≡ 8) × Upto (λ j. bit_or (get_or l.initial.set j 0) (get_or l.other j 0)) l.initial.set l.set l.i
