-- `decode::fill` meets its contract. The invariant: sizes, functions and the nodes below n are put.
use Prim.Native.Nat.{◌-◌}
use mathlib.Core.Path.{◌≡◌}
use Rattle.table.specs.Decoded.{nodes_put}
use Rattle.table.proofs.decode.fill.Given as goal

abbrev pub invariant-loop-n : goal.invariant-loop-n
invariant-loop-n l = l.cells ≡ nodes_put l.table (l.n - 1) l.initial.cells
