-- `faults::under_last` meets its contract. The invariant: the answer at `a` is that at n. The measure is `a`, since a parent is lower.
use mathlib.Core.Path.{◌≡◌}
use Prim.Native.Nat.{◌≤◌}
use Rattle.table.specs.Bytes.{nodes}
use Rattle.table.specs.Naming.{under_last}
use Rattle.table.proofs.faults.under_last.Given as goal

abbrev pub invariant-loop-a : goal.invariant-loop-a
invariant-loop-a l = (l.a.0 ≤ nodes l.table) × (under_last l.table l.p.0 l.initial.a.0 ≡ under_last l.table l.p.0 l.a.0)

abbrev pub decreases-loop-a : goal.decreases-loop-a
decreases-loop-a l = l.a.0
