-- `sweep::all_counted` meets its contract: each turn holds the number of a node's children against what is wanted.
-- The invariant: where none was outside, the nodes below n have as many as they may.
use Prim.Native.Nat.{ℕ, ◌≤◌, ◌<◌}
use mathlib.Core.Path.{◌≡◌}
use lib.Dec.{T}
use Rattle.table.specs.Check.{counted}
use Rattle.table.proofs.sweep.all_counted.Given as goal

abbrev pub invariant-loop-n : goal.invariant-loop-n
invariant-loop-n l = (l.wrong < l.n) × (l.wrong ≡ 0 → (m : ℕ) → 1 ≤ m → m < l.n → T (counted l.table m))
