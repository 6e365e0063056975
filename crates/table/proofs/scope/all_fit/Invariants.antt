-- `scope::all_fit` meets its contract. The invariant: the bounds before this place fit.
use Prim.Native.Nat.{ℕ, ◌<◌}
use lib.Dec.{T}
use lib.ListN.{get_or}
use Rattle.table.specs.Sweep.{bound_fits}
use Rattle.table.proofs.scope.all_fit.Given as goal

abbrev pub invariant-loop-n : goal.invariant-loop-n
invariant-loop-n l = (j : ℕ) → j < l.n-index → T (bound_fits l.table (get_or l.bounds j 0))
