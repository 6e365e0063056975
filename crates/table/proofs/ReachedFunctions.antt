-- what main reaches is the least that holds main and what its members' bodies call; each is a function of the table
use Prim.Native.Nat.{ℕ, ◌≤◌}
use native.Mathlib.Omega.{arith}
use Rattle.table.specs.Syntax.{Expr}
use Rattle.table.specs.Well.{CallIn, Fn, Well}
use Rattle.table.specs.Reach.{Reached, main, called}

module _ (F : ℕ) (body : ℕ → Expr) where
  pub reached_main : Reached F body F
  reached_main = main

  pub reached_call : (f c g : ℕ) → Reached F body f → CallIn c g (body f) → Reached F body g
  reached_call = called

  pub reached_least : (P : ℕ → Type 0) → P F → ((f c g : ℕ) → P f → CallIn c g (body f) → P g) → (f : ℕ) → Reached F body f → P f
  reached_least P p q f main = p
  reached_least P p q f (called h c g r i) = q h c g (reached_least P p q h r) i

  pub reached_there : 1 ≤ F → Well F body → (f : ℕ) → Reached F body f → Fn F body f
  reached_there some_function well = reached_least (Fn F body) (some_function, omega arith)
      (λ f c g r i. let b = well.below f c g r i in (b.0, omega (arith, b.1, r.1)))
