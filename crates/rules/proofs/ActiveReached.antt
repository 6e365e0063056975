-- an active function is one that main reaches: the call that occupies it stands in the body of such a function, up to main's
use Prim.Native.Nat.{ℕ, zero, suc, ◌+◌, ◌≤◌}
use mathlib.Core.Path.{refl, subst, sym}
use mathlib.Core.Logic.{inl, inr}
use native.Mathlib.Omega.{arith}
use Rattle.table.specs.Syntax.{Expr, call}
use Rattle.table.specs.Well.{Fn}
use Rattle.table.specs.Reach.{Reached, main, called}
use Rattle.table.proofs.CallPlaces.{find}
use Rattle.rules.specs.State.{View}
use Rattle.rules.proofs.Shape.{busy_moves}
use Rattle.rules.proofs.Invariant.{Active, Sound}
use Rattle.rules.proofs.Acting.{stepping}

module _ (F : ℕ) (body : ℕ → Expr) (s : View) (sound : Sound F body s) where
  -- k callers at most are left above f
  climb : (k f : ℕ) → F ≤ k + f → Fn F body f → Active F s f → Reached F body f
  climb zero f l r a = subst (Reached F body) (omega (arith, l, r.1)) main
  climb (suc k) f l r a = go (climb k) a
    where
      go : ((h : ℕ) → F ≤ k + h → Fn F body h → Active F s h → Reached F body h) → Active F s f → Reached F body f
      go above (inl e) = subst (Reached F body) (sym e) main
      go above (inr z) =
          let o = sound.held f (s.occupant f) r refl z in
          let p = find (s.occupant f) f (body o.0) o.3 in
          let a = (stepping sound o.0 o.1 (call (s.occupant f) f p.0) p.1 (busy_moves s (s.occupant f) o.4.0)).0 in
          called o.0 (s.occupant f) f (above o.0 (omega (arith, l, o.2)) o.1 a) o.3

  pub active_reached : (f : ℕ) → Fn F body f → Active F s f → Reached F body f
  active_reached f r a = climb F f (omega arith) r a
