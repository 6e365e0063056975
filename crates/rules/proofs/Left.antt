-- what is left to read of a body under way: its outcome and the number of steps to come
use Prim.Native.Nat.{ℕ, ◌+◌}
use mathlib.Core.Bool.{true, false}
use mathlib.Core.Path.{◌≡◌}
use mathlib.Core.Logic.{◌⊎◌}
use mathlib.Core.List.{List, [], ◌∷◌}
use Rattle.table.specs.Syntax.{Expr, Exprs, const, param, prim, call, self, cond, bind, bound, none, some, id}
use Rattle.rules.specs.State.{View}
use Rattle.table.specs.Environment.{values, extend}
use Rattle.rules.specs.Reading.{Chosen, Outcome, val, again, last, Readings, Reads}

module _ (apply : ℕ → List ℕ → ℕ) (K : Readings) (s : View) (W : ℕ → ℕ) (args : ℕ → ℕ) where
  abbrev pub Over : ℕ → Outcome → ℕ → Type 0
  Over n o k = (s.status n ≡ 3) × (o ≡ val (s.value n)) × (k ≡ 0)

  abbrev pub Fresh : Expr → (ℕ → ℕ) → Outcome → ℕ → Type 0
  Fresh e ρ o k = ((s.status (id e) ≡ 0) ⊎ (s.status (id e) ≡ 1)) × Reads apply K args e ρ o k

  -- done, not yet begun, or busy with `going` left
  abbrev Part : Expr → (ℕ → ℕ) → Outcome → ℕ → (going : Type 0) → Type 0
  Part e ρ o k going = Over (id e) o k ⊎ Fresh e ρ o k ⊎ ((s.status (id e) ≡ 2) × going)

  -- W m is what the call m, in its second phase, is to get
  abbrev mutual
    -- of an expression that is busy
    pub Going : Expr → (ℕ → ℕ) → Outcome → ℕ → Type 0
    Going (const n v) ρ o k = ⊥
    Going (param n i) ρ o k = ⊥
    Going (prim n op es) ρ o k = (vs : List ℕ) × (j : ℕ) × Left* es ρ vs j × (o ≡ val (apply op vs)) × (k ≡ 1 + j)
    Going (call n g es) ρ o k =
        ((s.second n ≡ false) × ((vs : List ℕ) × (v j i : ℕ) × Left* es ρ vs j × K g vs v i × (o ≡ val v) × (k ≡ 2 + j + i)))
        ⊎ ((s.second n ≡ true) × (o ≡ val (W n)) × (k ≡ 1))
    Going (self n es) ρ o k = (vs : List ℕ) × (j : ℕ) × Left* es ρ vs j × (o ≡ again vs) × (k ≡ 1 + j)
    Going (cond n a b c) ρ o k =
        ((s.second n ≡ false) × ((v j i : ℕ) × Part a ρ (val v) j (Going a ρ (val v) j)
        × Chosen (Reads apply K args b ρ o i) (Reads apply K args c ρ o i) v × (k ≡ 1 + last o + j + i)))
        ⊎ ((s.second n ≡ true) × ((i : ℕ) × Chosen (Part b ρ o i (Going b ρ o i)) (Part c ρ o i (Going c ρ o i)) (s.value (id a))
        × (k ≡ last o + i)))
    Going (bind n ds b) ρ o k =
        ((s.second n ≡ false) × ((vs : List ℕ) × (j i : ℕ) × Left* ds ρ vs j × Reads apply K args b (extend ds vs ρ) o i
        × (k ≡ 1 + last o + j + i)))
        ⊎ ((s.second n ≡ true) × ((i : ℕ) × Part b (extend ds (values s.value ds) ρ) o i
        (Going b (extend ds (values s.value ds) ρ) o i) × (k ≡ last o + i)))
    Going (bound n d) ρ o k = ⊥

    pub Left* : Exprs → (ℕ → ℕ) → List ℕ → ℕ → Type 0
    Left* none ρ vs j = (vs ≡ []) × (j ≡ 0)
    Left* (some e es) ρ vs j = (v : ℕ) × (ws : List ℕ) × (i i' : ℕ) × Part e ρ (val v) i (Going e ρ (val v) i) × Left* es ρ ws i'
        × (vs ≡ v ∷ ws) × (j ≡ i + i')

  abbrev pub Left : Expr → (ℕ → ℕ) → Outcome → ℕ → Type 0
  Left e ρ o k = Part e ρ o k (Going e ρ o k)
