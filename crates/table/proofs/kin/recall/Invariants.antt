-- `kin::recall` meets its contract. The invariant: the nodes below n are recalled.
use Prim.Native.Nat.{◌-◌}
use Rattle.table.proofs.KinLoops.{RecalledTo}
use Rattle.table.proofs.kin.recall.Given as goal

abbrev pub invariant-loop-n : goal.invariant-loop-n
invariant-loop-n l = RecalledTo l.table (l.n - 1) l.kin
