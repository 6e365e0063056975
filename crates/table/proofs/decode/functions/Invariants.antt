-- `decode::functions` meets its contract. The invariant: the functions below f are put.
use Prim.Native.Nat.{◌-◌}
use mathlib.Core.Path.{◌≡◌}
use Rattle.table.specs.Decoded.{functions_put}
use Rattle.table.proofs.decode.functions.Given as goal

abbrev pub invariant-loop-f : goal.invariant-loop-f
invariant-loop-f l = l.cells ≡ functions_put l.table (l.f - 1) l.initial.cells
