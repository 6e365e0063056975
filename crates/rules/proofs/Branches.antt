-- what holds of the branch that an if takes
use Prim.Native.Nat.{ℕ, zero, suc}
use mathlib.Core.Path.{◌≡◌, subst}
use Rattle.rules.specs.Reading.{Chosen}

-- of both branches the same follows
pub chosen_case : {X Y Z : Type 0} → (X → Z) → (Y → Z) → (v : ℕ) → Chosen X Y v → Z
chosen_case f g zero t = g t
chosen_case f g (suc v) t = f t

-- from what holds of each branch follows another thing, also where the value is written in another way
pub chosen_map : {X Y X' Y' : Type 0} → (X → X') → (Y → Y') → (v w : ℕ) → v ≡ w → Chosen X Y v → Chosen X' Y' w
chosen_map {X} {Y} {X'} {Y'} f g v w e t = subst (Chosen X' Y') e (at v t)
  where
    at : (v : ℕ) → Chosen X Y v → Chosen X' Y' v
    at zero t = g t
    at (suc v) t = f t

-- from two things that hold of each branch follows a third
pub chosen_both : {X Y X' Y' X'' Y'' : Type 0} → (X → X' → X'') → (Y → Y' → Y'') → (v w : ℕ) → w ≡ v → Chosen X Y v → Chosen X' Y' w
    → Chosen X'' Y'' v
chosen_both {X} {Y} {X'} {Y'} {X''} {Y''} f g v w e t u = at v t (subst (Chosen X' Y') e u)
  where
    at : (v : ℕ) → Chosen X Y v → Chosen X' Y' v → Chosen X'' Y'' v
    at zero t u = g t u
    at (suc v) t u = f t u
