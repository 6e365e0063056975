-- `linking::roots` meets its contract: each turn hands to a root that nothing named.
-- The invariant: the roots below f are handed and fit.
use Prim.Native.Nat.{◌-◌}
use Rattle.table.specs.Sweep.{Handed, RootsFit}
use Rattle.table.proofs.linking.roots.Given as goal

abbrev pub invariant-loop-f : goal.invariant-loop-f
invariant-loop-f l = Handed l.table (l.f - 1) 0 l.kin × RootsFit l.table (l.f - 1)
