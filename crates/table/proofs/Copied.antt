-- a loop that writes the list l over d from the front
use mathlib.Core.Path.{◌≡◌, refl, ap, ◌∙◌}
use mathlib.Core.List.{List, [], ◌∷◌, ◌++◌, append-nil}
use Prim.Native.Nat.{ℕ, zero, suc, ◌+◌, ◌<◌, ◌≤◌}
use native.Mathlib.Nat.{not-suc-le-zero, le_of_suc-le-suc}
use native.Mathlib.Numerals.{add-one}
use native.Mathlib.Omega.{arith}
use lib.ListN.{length, set, take, drop, get_or, drop_of_length-le}
use lib.Seq.{take_all}

copied_suc : {A : Type 0} (z : A) (i : ℕ) (l d : List A) → i < length l → i < length d
    → set (take i l ++ drop i d) i (get_or l i z) ≡ take (suc i) l ++ drop (suc i) d
copied_suc z i [] d p q = absurd (not-suc-le-zero p)
copied_suc z i (x ∷ l) [] p q = absurd (not-suc-le-zero q)
copied_suc z zero (x ∷ l) (y ∷ d) p q = refl
copied_suc {A} z (suc i) (x ∷ l) (y ∷ d) p q = ap (λ (t : List A). x ∷ t) (copied_suc z i l d (le_of_suc-le-suc p) (le_of_suc-le-suc q))

pub copied_more : {A : Type 0} (z v : A) (i : ℕ) (l d e : List A) → i < length l → i < length d → e ≡ take i l ++ drop i d
    → v ≡ get_or l i z → set e i v ≡ take (i + 1) l ++ drop (i + 1) d
copied_more z v i l d e p q h k = rw (h, k, add-one) (copied_suc z i l d p q)

pub copied_all : {A : Type 0} (l d e : List A) (i : ℕ) → length d ≡ length l → length l ≤ i → e ≡ take i l ++ drop i d → e ≡ l
copied_all l d e i p q h = h ∙ rw (take_all i l q, drop_of_length-le d {i = i} (omega arith)) (append-nil l)
