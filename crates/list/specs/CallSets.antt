-- the call sets of a whole program, function by function, and its arbiter list
use Rattle.std.specs.Prelude.{ℕ, zero, suc}
use Rattle.std.proofs.Math.Decide.{ℕ_discrete}
use Rattle.table.specs.Syntax.{Expr, const, param, prim, call, self, cond, bind, bound}
use Rattle.list.specs.Sets.{Calls}
use Rattle.list.specs.Conflict.{C, A}
use Rattle.table.specs.Pick.{mixed}
use Rattle.table.specs.Reach.{Reached}

-- the function that a node calls, if it is a call and no self call
abbrev pub callee : Expr → ℕ
callee (const n v) = 0
callee (param n i) = 0
callee (prim n op es) = 0
callee (call n g es) = g
callee (self n es) = 0
callee (cond n a b c) = 0
callee (bind n ds b) = 0
callee (bound n d) = 0

abbrev pub callee_at : (ℕ → Expr) → ℕ → ℕ
callee_at at n = callee (at n)

module _ (body at : ℕ → Expr) where
  -- the calls that may happen in the bodies of the functions 1 to t
  abbrev pub sets : ℕ → ℕ → Calls
  sets zero g m = ⊥
  sets (suc t) g m = mixed (ℕ_discrete g (suc t)) (C (callee_at at) (sets t) (body g) m) (sets t g m)

  -- the arbiter list: the calls in conflict in the body of some function that main, which is F, reaches
  abbrev pub Listed : ℕ → ℕ → Type 0
  Listed F α = (f : ℕ) × Reached F body f × A (callee_at at) (sets F) (body f) α
