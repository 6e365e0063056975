-- `names::roots` meets its contract: a turn decodes a function's record and counts what its root names.
-- The invariant: slots, mentions and roots are right below f.
use Prim.Native.Nat.{◌-◌}
use Rattle.table.specs.Working.{Filled}
use Rattle.table.proofs.NameLoops.{RootsTo}
use Rattle.table.proofs.names.roots.Given as goal

abbrev pub invariant-loop-f : goal.invariant-loop-f
invariant-loop-f l = RootsTo l.table l.mentions l.roots (l.f - 1) × Filled l.table (l.f - 1) 0 0 l.cells
