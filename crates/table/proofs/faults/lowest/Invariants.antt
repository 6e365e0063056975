-- `faults::lowest` meets its contract. The invariant: `best` is the lowest number of the nodes below n.
use Rattle.std.proofs.Common.{◌-◌}
use Rattle.table.proofs.FaultLaws.{SoFar}
use Rattle.table.proofs.faults.lowest.Given as goal

abbrev pub invariant-loop-n : goal.invariant-loop-n
invariant-loop-n l = SoFar l.table (l.n - 1) l.best
