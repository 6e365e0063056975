-- `scope::climbs` meets its contract. The invariant: what is in the body of `from` is in that of a. The measure is a, which falls.
use Prim.Native.Nat.{◌≤◌}
use Rattle.table.specs.Bytes.{nodes}
use Rattle.table.specs.Sweep.{Outward}
use Rattle.table.proofs.scope.climbs.Given as goal

abbrev pub invariant-loop-a : goal.invariant-loop-a
invariant-loop-a l = (l.a.0 ≤ nodes l.table) × Outward l.table l.initial.a.0 l.a.0

abbrev pub decreases-loop-a : goal.decreases-loop-a
decreases-loop-a l = l.a.0
