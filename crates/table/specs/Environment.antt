-- what a let's body sees: the values of the definientia, by their nodes
use Rattle.std.specs.Prelude.{ℕ, List, [], ◌∷◌, eqb}
use Rattle.table.specs.Syntax.{Exprs, none, some, id}
use Rattle.table.specs.Pick.{pick}

abbrev pub put {ℓ} : {A : Type ℓ} → (ℕ → A) → ℕ → A → ℕ → A
put f n v m = pick (eqb n m) v (f m)

-- the definientia's values, by their nodes
abbrev pub extend : Exprs → List ℕ → (ℕ → ℕ) → ℕ → ℕ
extend none vs ρ = ρ
extend (some d ds) [] ρ = ρ
extend (some d ds) (v ∷ vs) ρ = put (extend ds vs ρ) (id d) v

-- the values that the nodes hold
abbrev pub values : (ℕ → ℕ) → Exprs → List ℕ
values value none = []
values value (some e es) = value (id e) ∷ values value es
