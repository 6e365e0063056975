-- the calls whose callee is occupied: kept while occupants are, all calls of g once it is entered, none once it is left
use Prim.Native.Nat.{ℕ}
use mathlib.Core.Bool.{◌&&◌, ◌||◌, not}
use mathlib.Core.Path.{◌≡◌, refl, sym, ap, ◌∙◌}
use native.Mathlib.Decide.{ℕ_discrete}
use lib.Dec.{eqb}
use borrow.Author.Tests.{eq-eqb, ne_eqb}
use Rattle.table.specs.Syntax.{Expr, const, param, prim, call, self, cond, bind, bound}
use Rattle.rules.specs.State.{View}
use Rattle.rules.specs.Play.{calls}
use Rattle.rules.specs.Sets.{barred_by}
use Rattle.table.proofs.Tests.{or_yes, or_no, and_yes, and_no}

module _ (s s' : View) where
  pub held_same : ((f : ℕ) → s'.occupant f ≡ s.occupant f) → (u : Expr) → barred_by s' u ≡ barred_by s u
  held_same k (const n v) = refl
  held_same k (param n i) = refl
  held_same k (prim n op es) = refl
  held_same k (call n f es) = ap (λ o. not (eqb o 0)) (k f)
  held_same k (self n es) = refl
  held_same k (cond n a b c) = refl
  held_same k (bind n ds b) = refl
  held_same k (bound n d) = refl

  module _ (g : ℕ) (others : (f : ℕ) → (f ≡ g → ⊥) → s'.occupant f ≡ s.occupant f) where
    pub held_entered : (s'.occupant g ≡ 0 → ⊥) → (u : Expr) → barred_by s' u ≡ (barred_by s u || calls u g)
    held_entered z (const n v) = refl
    held_entered z (param n i) = refl
    held_entered z (prim n op es) = refl
    held_entered z (call n f es) = go (ℕ_discrete f g)
      where
        go : Dec (f ≡ g) → not (eqb (s'.occupant f) 0) ≡ (not (eqb (s.occupant f) 0) || eqb f g)
        go (yes e) = ap not (ap (λ x. eqb (s'.occupant x) 0) e ∙ ne_eqb (s'.occupant g) 0 z)
            ∙ sym (ap (λ b. not (eqb (s.occupant f) 0) || b) (eq-eqb f g e) ∙ or_yes (not (eqb (s.occupant f) 0)))
        go (no e) = ap (λ o. not (eqb o 0)) (others f e)
            ∙ sym (ap (λ b. not (eqb (s.occupant f) 0) || b) (ne_eqb f g e) ∙ or_no (not (eqb (s.occupant f) 0)))
    held_entered z (self n es) = refl
    held_entered z (cond n a b c) = refl
    held_entered z (bind n ds b) = refl
    held_entered z (bound n d) = refl

    pub held_left : s'.occupant g ≡ 0 → (u : Expr) → barred_by s' u ≡ (barred_by s u && not (calls u g))
    held_left z (const n v) = refl
    held_left z (param n i) = refl
    held_left z (prim n op es) = refl
    held_left z (call n f es) = go (ℕ_discrete f g)
      where
        go : Dec (f ≡ g) → not (eqb (s'.occupant f) 0) ≡ (not (eqb (s.occupant f) 0) && not (eqb f g))
        go (yes e) = ap not (ap (λ x. eqb (s'.occupant x) 0) e ∙ eq-eqb (s'.occupant g) 0 z)
            ∙ sym (ap (λ b. not (eqb (s.occupant f) 0) && not b) (eq-eqb f g e) ∙ and_no (not (eqb (s.occupant f) 0)))
        go (no e) = ap (λ o. not (eqb o 0)) (others f e)
            ∙ sym (ap (λ b. not (eqb (s.occupant f) 0) && not b) (ne_eqb f g e) ∙ and_yes (not (eqb (s.occupant f) 0)))
    held_left z (self n es) = refl
    held_left z (cond n a b c) = refl
    held_left z (bind n ds b) = refl
    held_left z (bound n d) = refl
