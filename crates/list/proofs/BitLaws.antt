-- the bits of numbers: `|`, `&`, shifts, and the byte that a node's bit is in
use Rattle.std.proofs.Common.{◌≡◌, ℕ, zero, suc, ◌+◌, ◌-◌, ◌*◌, ◌/◌, ◌%◌, ◌^◌, ◌<◌, ◌≤◌, min, max, false, ◌&&◌, ◌||◌, eqb, List, get_or}
use Rattle.std.proofs.Common.{replicate, sym, refl, ap, ◌∙◌, mod-eq_of_lt, one-mul, pow-suc, arith, pow_pos, pow-add, eq-eqb, ne_eqb}
use native.Mathlib.Nat.{div_self, div-eq_of_lt, zero-div, div-div-eq-div-mul}
use native.Mathlib.Decide.{dec_lt, ℕ_discrete}
use lib.Pow.{pow-lt, shl-shr}
use lib.Bits.{bit_and, bit_or, and_mask, or_shr, and_shr, or_step, and_step}
use Rattle.list.specs.Tags.{tagged}
use Rattle.list.specs.Working.{bit_at}

-- `1 << k` at a width w above k
pub bit_is : (k w : ℕ) → k < w → (1 * 2 ^ k) % 2 ^ w ≡ 2 ^ k
bit_is k w h = ap (λ (x : ℕ). x % 2 ^ w) (one-mul (2 ^ k)) ∙ mod-eq_of_lt (pow-lt h)

pub low_bit : (x : ℕ) → bit_and x 1 ≡ x % 2
low_bit x = and_mask x 1

or_two : (a b : ℕ) → a < 2 → b < 2 → eqb (max a b) 1 ≡ eqb a 1 || eqb b 1
or_two zero zero p q = refl
or_two zero (suc zero) p q = refl
or_two (suc zero) zero p q = refl
or_two (suc zero) (suc zero) p q = refl
or_two zero (suc (suc b)) p q = absurd (omega arith)
or_two (suc zero) (suc (suc b)) p q = absurd (omega arith)
or_two (suc (suc a)) b p q = absurd (omega arith)

and_two : (a b : ℕ) → a < 2 → b < 2 → eqb (min a b) 1 ≡ eqb a 1 && eqb b 1
and_two zero zero p q = refl
and_two zero (suc zero) p q = refl
and_two (suc zero) zero p q = refl
and_two (suc zero) (suc zero) p q = refl
and_two zero (suc (suc b)) p q = absurd (omega arith)
and_two (suc zero) (suc (suc b)) p q = absurd (omega arith)
and_two (suc (suc a)) b p q = absurd (omega arith)

mod_two : (x : ℕ) → x % 2 < 2
mod_two x = omega arith

or_bits : (x y k : ℕ) → bit_or x y / 2 ^ k % 2 ≡ max (x / 2 ^ k % 2) (y / 2 ^ k % 2)
or_bits x y k = rw (or_shr x y k, or_step (x / 2 ^ k) (y / 2 ^ k)) (omega arith)

and_bits : (x y k : ℕ) → bit_and x y / 2 ^ k % 2 ≡ min (x / 2 ^ k % 2) (y / 2 ^ k % 2)
and_bits x y k = rw (and_shr x y k, and_step (x / 2 ^ k) (y / 2 ^ k)) (omega arith)

-- the bits of `|` and `&`
pub or_bit : (x y k : ℕ) → bit_at (bit_or x y) k ≡ bit_at x k || bit_at y k
or_bit x y k = ap (λ z. eqb z 1) (or_bits x y k) ∙ or_two (x / 2 ^ k % 2) (y / 2 ^ k % 2) (mod_two _) (mod_two _)

pub and_bit : (x y k : ℕ) → bit_at (bit_and x y) k ≡ bit_at x k && bit_at y k
and_bit x y k = ap (λ z. eqb z 1) (and_bits x y k) ∙ and_two (x / 2 ^ k % 2) (y / 2 ^ k % 2) (mod_two _) (mod_two _)

pub zero_bit : (k : ℕ) → bit_at 0 k ≡ false
zero_bit k = ap (λ z. eqb (z % 2) 1) (zero-div (2 ^ k))

-- bit j of 2 ^ k
pow_same : (k : ℕ) → 2 ^ k / 2 ^ k % 2 ≡ 1
pow_same k = rw (div_self (pow_pos k))

pow_above : (k j : ℕ) → k < j → 2 ^ k / 2 ^ j % 2 ≡ 0
pow_above k j h = rw (div-eq_of_lt (pow-lt h))

pow_below : (d j : ℕ) → 2 ^ (suc d + j) / 2 ^ j % 2 ≡ 0
pow_below d j = rw (pow-add 2 (suc d) j, shl-shr (2 ^ suc d) j, pow-suc) (omega arith)

pub pow_bit : (k j : ℕ) → bit_at (2 ^ k) j ≡ eqb k j
pow_bit k j = go (ℕ_discrete k j) (dec_lt k j)
  where
    go : Dec (k ≡ j) → Dec (k < j) → bit_at (2 ^ k) j ≡ eqb k j
    go (yes e) d = rw (eq-eqb k j e) (ap (λ i. bit_at (2 ^ k) i) (sym e) ∙ ap (λ x. eqb x 1) (pow_same k))
    go (no e) (yes l) = rw (ne_eqb k j e) (ap (λ x. eqb x 1) (pow_above k j l))
    go (no e) (no l) =
        rw (ne_eqb k j e) (ap (λ x. bit_at (2 ^ x) j) (apart k j e l) ∙ ap (λ x. eqb x 1) (pow_below (k - suc j) j))
      where
        apart : (k j : ℕ) → (k ≡ j → ⊥) → (k < j → ⊥) → k ≡ suc (k - suc j) + j
        apart k j e l = omega arith

-- a number below 2 has no bit but the lowest
pub small_bit : (x k : ℕ) → x < 2 → 1 ≤ k → bit_at x k ≡ false
small_bit x zero p q = absurd (omega arith)
small_bit x (suc k) p q = ap (λ z. eqb (z % 2) 1) (div-eq_of_lt (less x (2 ^ k) p (pow_pos k) (pow-suc 2 k)))
  where
    less : (x y : ℕ) → x < 2 → 0 < y → 2 ^ suc k ≡ y * 2 → x < 2 ^ suc k
    less x y a b c = omega arith

-- a node's bit is in its byte
pub tagged_bit : (l : List ℕ) (m : ℕ) → 1 ≤ m → tagged l m ≡ bit_at (get_or l ((m - 1) / 8) 0) ((m - 1) % 8)
unfolding tagged
tagged_bit l zero h = absurd (omega arith)
tagged_bit l (suc m) h = ap (λ k. bit_at (get_or l (k / 8) 0) (k % 8)) (back m)
  where
    back : (m : ℕ) → m ≡ suc m - 1
    back m = omega arith

-- zeros
pub zeros_at : (n i : ℕ) → ◌≡◌ {A = ℕ} (get_or (replicate n 0) i 0) 0
zeros_at zero i = refl
zeros_at (suc n) zero = refl
zeros_at (suc n) (suc i) = zeros_at n i

-- a bit of a byte of a word
pub byte_bit : (x k j : ℕ) → j < 8 → bit_at (x / 2 ^ k % 256) j ≡ bit_at x (k + j)
byte_bit x k j h = ap (λ y. eqb y 1) (mod_low (x / 2 ^ k) j h) ∙ ap (λ y. eqb (y % 2) 1) (moved x k j)
  where
    mod_low : (y j : ℕ) → j < 8 → y % 256 / 2 ^ j % 2 ≡ y / 2 ^ j % 2
    mod_low y zero h = omega arith
    mod_low y (suc zero) h = omega arith
    mod_low y (suc (suc zero)) h = omega arith
    mod_low y (suc (suc (suc zero))) h = omega arith
    mod_low y (suc (suc (suc (suc zero)))) h = omega arith
    mod_low y (suc (suc (suc (suc (suc zero))))) h = omega arith
    mod_low y (suc (suc (suc (suc (suc (suc zero)))))) h = omega arith
    mod_low y (suc (suc (suc (suc (suc (suc (suc zero))))))) h = omega arith
    mod_low y (suc (suc (suc (suc (suc (suc (suc (suc j)))))))) h = absurd (omega arith)

    moved : (x k j : ℕ) → x / 2 ^ k / 2 ^ j ≡ x / 2 ^ (k + j)
    moved x k j = div-div-eq-div-mul x (2 ^ k) (2 ^ j) ∙ ap (λ y. x / y) (sym (pow-add 2 k j))
