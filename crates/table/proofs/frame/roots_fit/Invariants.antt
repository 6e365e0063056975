-- `frame::roots_fit` meets its contract. The invariant: the roots below f are nodes.
use mathlib.Core.Bool.{true}
use mathlib.Core.Path.{◌≡◌}
use Prim.Native.Nat.{◌-◌}
use Rattle.table.specs.Find.{all}
use Rattle.table.specs.Check.{root_fits}
use Rattle.table.proofs.frame.roots_fit.Given as goal

abbrev pub invariant-loop-f : goal.invariant-loop-f
invariant-loop-f l = all (root_fits l.table) (l.f - 1) ≡ true
