-- counting and searching among the numbers 1 to k
use Rattle.std.specs.Prelude.{ℕ, zero, suc, ◌+◌, Bool, true, false, ◌&&◌, eqb}
use Rattle.table.specs.Pick.{pick}

abbrev pub one : Bool → ℕ
one true = 1
one false = 0

-- g 1 + .. + g k
unfoldable pub total : (ℕ → ℕ) → ℕ → ℕ
total g zero = 0
total g (suc k) = g (suc k) + total g k

-- the highest that passes, 0 if none does
unfoldable pub highest : (ℕ → Bool) → ℕ → ℕ
highest p zero = 0
highest p (suc k) = pick (p (suc k)) (suc k) (highest p k)

-- the lowest that fails, 0 if none does
unfoldable pub lowest : (ℕ → Bool) → ℕ → ℕ
lowest p zero = 0
lowest p (suc k) = let r = lowest p k in pick (eqb r 0) (pick (p (suc k)) 0 (suc k)) r

-- all pass
unfoldable pub all : (ℕ → Bool) → ℕ → Bool
all p zero = true
all p (suc k) = p (suc k) && all p k

-- what n makes of what the lower number down n came to; a at 0
unfoldable pub back_by {ℓ} : {A : Type ℓ} → (ℕ → ℕ) → (ℕ → A → A) → A → ℕ → ℕ → A
back_by down step a zero n = a
back_by down step a (suc k) zero = a
back_by down step a (suc k) (suc n) = step (suc n) (back_by down step a k (down (suc n)))

unfoldable pub back {ℓ} : {A : Type ℓ} → (ℕ → ℕ) → (ℕ → A → A) → A → ℕ → A
back down step a n = back_by down step a n n
