-- `arbiters::bytes` meets its contract. The invariant: the words up to i are written in bytes.
use Rattle.std.proofs.Common.{◌≡◌, length}
use Rattle.list.proofs.WordLaws.{Bytes}
use Rattle.list.proofs.arbiters.bytes.Given as goal

abbrev pub invariant-loop-i : goal.invariant-loop-i
invariant-loop-i l = (length l.all ≡ 64) × Bytes l.set l.all l.i
