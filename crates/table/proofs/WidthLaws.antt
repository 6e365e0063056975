-- widths as numbers: what a width byte gives, and what so many bits hold
use Prim.Native.Nat.{ℕ, ◌+◌, ◌-◌, ◌*◌, ◌/◌, ◌%◌, ◌^◌, ◌≤◌, ◌<◌}
use mathlib.Core.Path.{◌≡◌, sym, ap, ◌∙◌}
use native.Mathlib.Omega.{arith}
use native.Mathlib.Decide.{ℕ_discrete}
use native.Mathlib.Nat.{one-mul, mod-eq_of_lt}
use lib.Dec.{leb}
use lib.Pow.{pow_pos, pow-lt, pow_mono, high, ones_lt, ones_split}
use borrow.Author.Tests.{ne_eqb}
use Rattle.table.specs.Pick.{Range}
use Rattle.table.specs.Bytes.{bits}

-- 0 is 32, anything else is itself
pub bits_none : (b : ℕ) → b ≡ 0 → bits b ≡ 32
unfolding bits
bits_none b z = rw z

pub bits_some : (b : ℕ) → (b ≡ 0 → ⊥) → bits b ≡ b
unfolding bits
bits_some b z = rw (ne_eqb b 0 z)

-- a byte that is allowed gives 1 to 32 bits
pub bits_range : (b : ℕ) → b ≤ 32 → Range 32 (bits b)
bits_range b l = go (ℕ_discrete b 0)
  where
    go : Dec (b ≡ 0) → Range 32 (bits b)
    go (yes z) = rw (bits_none b z) (omega arith, omega arith)
    go (no z) = rw (bits_some b z) (omega arith, l)

-- and bits that are allowed come of such a byte
pub bits_few : (b : ℕ) → leb (bits b) 32 ≡ leb b 32
bits_few b = go (ℕ_discrete b 0)
  where
    go : Dec (b ≡ 0) → leb (bits b) 32 ≡ leb b 32
    go (yes z) = rw (bits_none b z, z)
    go (no z) = rw (bits_some b z)

-- `1 << w` in more bits than w
pub one_shifted : (w k : ℕ) → w < k → 1 * 2 ^ w % 2 ^ k ≡ 2 ^ w
one_shifted w k h = ap (λ (x : ℕ). x % 2 ^ k) (one-mul (2 ^ w)) ∙ mod-eq_of_lt (pow-lt h)

-- from 32 bits on, every word fits
pub any_word : (w x : ℕ) → 32 ≤ w → x < 2 ^ 32 → x < 2 ^ w
any_word w x h l = let m = pow_mono h in omega (arith, l, m)

-- the highest number of so many bits, as a shift of all ones
pub highest_told : (b : ℕ) → b ≤ 32 → 4294967295 / 2 ^ ((32 - b) % 32) + 1 ≡ 2 ^ bits b
highest_told b l = go (ℕ_discrete b 0)
  where
    go : Dec (b ≡ 0) → 4294967295 / 2 ^ ((32 - b) % 32) + 1 ≡ 2 ^ bits b
    go (yes z) = rw (bits_none b z, z)
    go (no z) =
        let k = 32 - b in
        let shift : (32 - b) % 32 ≡ k = omega (arith, z, l) in
        let whole : b + k ≡ 32 = omega (arith, l) in
        let ones : 4294967295 ≡ 2 ^ (b + k) - 1 = ap (λ j. 2 ^ j - 1) (sym whole) in
        let back : 2 ^ b - 1 + 1 ≡ 2 ^ b = omega (arith, pow_pos b) in
        ap (λ j. 4294967295 / 2 ^ j + 1) shift ∙ ap (λ x. x / 2 ^ k + 1) (ones ∙ ones_split b k)
        ∙ ap (λ x. x + 1) (high (2 ^ b - 1) k (ones_lt k)) ∙ back ∙ ap (λ j. 2 ^ j) (sym (bits_some b z))
