-- `frame::records_fit` meets its contract. The invariant: the records below f are allowed.
use mathlib.Core.Bool.{true}
use mathlib.Core.Path.{◌≡◌}
use Prim.Native.Nat.{◌-◌}
use Rattle.table.specs.Find.{all}
use Rattle.table.specs.Check.{record_fits}
use Rattle.table.proofs.frame.records_fit.Given as goal

abbrev pub invariant-loop-f : goal.invariant-loop-f
invariant-loop-f l = all (record_fits l.table) (l.f - 1) ≡ true
