-- one state inside an expression, another outside it
use Prim.Native.Nat.{ℕ}
use mathlib.Core.Path.{◌≡◌, refl}
use Rattle.table.specs.Syntax.{Expr, Node}
use Rattle.rules.specs.State.{View}
use Rattle.rules.proofs.Frame.{Same}
use Rattle.table.specs.Pick.{mixed}
use Rattle.table.proofs.SyntaxLaws.{node?}

-- s at the nodes of e, and s' at all others
abbrev pub mix : Expr → View → View → View
mix e s s' = record {
  status = λ m. mixed (node? m e) (s.status m) (s'.status m);
  second = λ m. mixed (node? m e) (s.second m) (s'.second m);
  value = λ m. mixed (node? m e) (s.value m) (s'.value m);
  register = s'.register;
  occupant = s'.occupant;
}

module _ (e : Expr) (s s' : View) where
  pub mix_in : (m : ℕ) → Node m e → Same s (mix e s s') m
  mix_in m k = go (node? m e)
    where
      go : (d : Dec (Node m e)) → (mixed d (s.status m) (s'.status m) ≡ s.status m)
          × (mixed d (s.second m) (s'.second m) ≡ s.second m) × (mixed d (s.value m) (s'.value m) ≡ s.value m)
      go (yes p) = (refl, refl, refl)
      go (no p) = absurd (p k)

  pub mix_out : (m : ℕ) → (Node m e → ⊥) → Same (mix e s s') s' m
  mix_out m k = go (node? m e)
    where
      go : (d : Dec (Node m e)) → (s'.status m ≡ mixed d (s.status m) (s'.status m))
          × (s'.second m ≡ mixed d (s.second m) (s'.second m)) × (s'.value m ≡ mixed d (s.value m) (s'.value m))
      go (yes p) = absurd (k p)
      go (no p) = (refl, refl, refl)
