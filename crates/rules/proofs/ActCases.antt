-- the cases of a node's step
use Prim.Native.Nat.{ℕ}
use mathlib.Core.Bool.{Bool, true, false}
use mathlib.Core.Path.{◌≡◌, refl}
use mathlib.Core.Logic.{inl, inr}
use native.Mathlib.Omega.{arith}
use lib.Dec.{eqb}
use borrow.Author.Tests.{eqb-true}
use Rattle.table.specs.Syntax.{Expr, const, param, prim, call, self, cond, bind, bound, id}
use Rattle.rules.specs.State.{View}
use Rattle.rules.proofs.Shape.{Open, Live}
use Rattle.table.specs.Pick.{pick}
use Rattle.rules.specs.Step.{Act, stuck, by_status}

-- what holds in either case of a test
module _ (P : Act → Type 0) where
  pub by_pick : (b : Bool) (x y : Act) → (b ≡ true → P x) → (b ≡ false → P y) → P (pick b x y)
  by_pick true x y f g = f refl
  by_pick false x y f g = g refl

  pub by_state : (t : ℕ) (o b : Act) → (t ≡ 1 → P o) → (t ≡ 2 → P b) → P stuck → P (by_status t o b)
  by_state t o b f g z = by_pick (eqb t 1) o (pick (eqb t 2) b stuck) (λ e. f (eqb-true t 1 e))
      (λ e. by_pick (eqb t 2) b stuck (λ e. g (eqb-true t 2 e)) (λ e. z))

-- an opened node at status 1 is not in its second phase
pub live_open : (s : View) (u : Expr) → Live s u → s.status (id u) ≡ 1 → Open s (id u)
live_open s (const n v) l e = l
live_open s (param n i) l e = l
live_open s (prim n op es) (inl l) e = l.0
live_open s (prim n op es) (inr l) e = absurd (omega arith)
live_open s (call n g es) (inl l) e = l.0
live_open s (call n g es) (inr (inl l)) e = absurd (omega arith)
live_open s (call n g es) (inr (inr l)) e = absurd (omega arith)
live_open s (self n es) (inl l) e = l.0
live_open s (self n es) (inr l) e = absurd (omega arith)
live_open s (cond n a b c) (inl l) e = l.0
live_open s (cond n a b c) (inr (inl l)) e = absurd (omega arith)
live_open s (cond n a b c) (inr (inr l)) e = absurd (omega arith)
live_open s (bind n ds b) (inl l) e = l.0
live_open s (bind n ds b) (inr (inl l)) e = absurd (omega arith)
live_open s (bind n ds b) (inr (inr l)) e = absurd (omega arith)
live_open s (bound n d) l e = l
