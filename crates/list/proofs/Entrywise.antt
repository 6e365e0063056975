-- loops that write a list entry by entry: bytes of a tag list, words of a set
use Rattle.std.proofs.Common.{◌≡◌, ℕ, ◌+◌, ◌<◌, ◌≤◌, List, length, get_or, set, sym, ap, ◌∙◌, arith, get_or-set_other, get_or-set_same}
use native.Mathlib.Decide.{ℕ_discrete}

-- up to i every entry is what f says, from i on it is as it was
pub record Upto (f : ℕ → ℕ) (x₀ x : List ℕ) (i : ℕ) : Type 0 where
  pub done : (j : ℕ) → j < i → get_or x j 0 ≡ f j
  pub left : (j : ℕ) → i ≤ j → get_or x j 0 ≡ get_or x₀ j 0

pub upto_none : (f : ℕ → ℕ) (x : List ℕ) → Upto f x x 0
upto_none f x = record { done = λ j h. absurd (omega arith); left = λ j h _. get_or x j 0 }

pub upto_more : (f : ℕ → ℕ) (x₀ x : List ℕ) (i v : ℕ) → i < length x → Upto f x₀ x i → v ≡ f i → Upto f x₀ (set x i v) (i + 1)
upto_more f x₀ x i v l u e = record { done = λ j h. done j h (ℕ_discrete j i); left = left }
  where
    done : (j : ℕ) → j < i + 1 → Dec (j ≡ i) → get_or (set x i v) j 0 ≡ f j
    done j h (yes p) = ap (λ k. get_or (set x i v) k 0) p ∙ get_or-set_same x i v 0 l ∙ e ∙ ap f (sym p)
    done j h (no p) = get_or-set_other x i j v 0 p ∙ u.done j (omega arith)

    left : (j : ℕ) → i + 1 ≤ j → get_or (set x i v) j 0 ≡ get_or x₀ j 0
    left j h = get_or-set_other x i j v 0 (λ p. omega (arith, p)) ∙ u.left j (omega arith)
