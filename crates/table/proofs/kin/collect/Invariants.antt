-- `kin::collect` meets its contract: a turn puts node n's function and parent into its slot, and its tail position into the array.
-- The invariant: both are right below n.
use Prim.Native.Nat.{◌-◌}
use Rattle.table.specs.Bytes.{functions, nodes}
use Rattle.table.specs.Working.{Filled}
use Rattle.table.proofs.KinLoops.{TailsTo}
use Rattle.table.proofs.kin.collect.Given as goal

abbrev pub invariant-loop-n : goal.invariant-loop-n
invariant-loop-n l = Filled l.table (functions l.table) (nodes l.table) (l.n - 1) l.cells × TailsTo l.table l.tail (l.n - 1)
