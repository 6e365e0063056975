-- `Kept::union` meets its contract. The invariant: the sites of the functions below h are united.
use Rattle.std.proofs.Common.{◌≡◌, length}
use Rattle.list.proofs.Meets.{United}
use Rattle.list.proofs.kept.Kept.union.Given as goal

abbrev pub invariant-loop-h : goal.invariant-loop-h
invariant-loop-h l = (length l.all ≡ 8) × United l.self.sites l.mask l.h l.all
