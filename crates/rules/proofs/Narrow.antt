-- laws of reducing modulo 2^w: the result is below 2^w, and six operations give the same after it, their operands reduced before or not
use Prim.Native.Nat.{ℕ, zero, suc, ◌+◌, ◌-◌, ◌*◌, ◌/◌, ◌%◌, ◌^◌, ◌≤◌, ◌<◌}
use mathlib.Core.Path.{◌≡◌, subst, sym, ap, ◌∙◌}
use mathlib.Core.List.{List, map}
use native.Mathlib.Nat.{mod-le, mod-lt, mod-eq_of_lt, mod-mod, zero-mod, add-mod, add-mul-mod_self_right, div-add-mod'}
use native.Mathlib.Omega.{arith}
use native.Mathlib.Decide.{dec_le}
use lib.Bits.{bit_and, bit_or, bit_xor, and_mod, or_mod, xor_mod}
use lib.ListN.{get_or, get_or-map}
use lib.Pow.{pow_pos, pow_mono, mod-mod-pow}
use Rattle.rules.specs.Operations.{wrap, operate}
use Rattle.rules.specs.Arithmetic.{narrow}
use Rattle.rules.specs.Companions.{Word, Words}

pub narrow_below : (w v : ℕ) → narrow w v < 2 ^ w
unfolding narrow
narrow_below w v = mod-lt v (pow_pos w)

pub narrow_less : (w v : ℕ) → narrow w v ≤ v
unfolding narrow
narrow_less w v = mod-le v (2 ^ w)

narrow_zero : (w : ℕ) → narrow w 0 ≡ 0
unfolding narrow
narrow_zero w = zero-mod (2 ^ w)

-- what is below is kept whole
narrow_same : (w v : ℕ) → v < 2 ^ w → narrow w v ≡ v
unfolding narrow
narrow_same w v h = mod-eq_of_lt h

module _ (w : ℕ) where
  -- reduced from 32 bits
  wrapped : w ≤ 32 → (v : ℕ) → narrow w (wrap v) ≡ narrow w v
  unfolding narrow wrap
  wrapped h v =
      let e : 32 - w + w ≡ 32 = omega (arith, h) in
      subst (λ k. v % 2 ^ k % 2 ^ w ≡ v % 2 ^ w) e (mod-mod-pow v (32 - w) w)

  first_add : (x y : ℕ) → narrow w (narrow w x + narrow w y) ≡ narrow w (x + y)
  unfolding narrow
  first_add x y = sym (add-mod x y (2 ^ w))

  -- both differ by multiples of 2^w from what has the second operand alone reduced
  first_subtract : (x y : ℕ) → Word y → narrow w (narrow w x + 2 ^ 32 - narrow w y) ≡ narrow w (x + 2 ^ 32 - y)
  unfolding narrow
  first_subtract x y h =
      sym (ap (λ z. z % 2 ^ w) (left (x / 2 ^ w * 2 ^ w) (x % 2 ^ w) (y % 2 ^ w) (div-add-mod' x (2 ^ w)) (mod-le y (2 ^ w)))
      ∙ add-mul-mod_self_right (x % 2 ^ w + 2 ^ 32 - y % 2 ^ w) (x / 2 ^ w) (2 ^ w))
      ∙ ap (λ z. z % 2 ^ w) (right (y / 2 ^ w * 2 ^ w) (y % 2 ^ w) (div-add-mod' y (2 ^ w)))
      ∙ add-mul-mod_self_right (x + 2 ^ 32 - y) (y / 2 ^ w) (2 ^ w)
    where
      left : (p r s : ℕ) → p + r ≡ x → s ≤ y → x + 2 ^ 32 - s ≡ r + 2 ^ 32 - s + p
      left p r s e l = omega (arith, e, l, h)

      right : (p s : ℕ) → p + s ≡ y → x + 2 ^ 32 - s ≡ x + 2 ^ 32 - y + p
      right p s e = omega (arith, e, h)

  first_double : (x : ℕ) → narrow w (2 * narrow w x) ≡ narrow w (2 * x)
  first_double x = ap (narrow w) (twice (narrow w x)) ∙ first_add x x ∙ ap (narrow w) (sym (twice x))
    where
      twice : (v : ℕ) → 2 * v ≡ v + v
      twice v = omega arith

  -- an operation on bits
  module _ (op : ℕ → ℕ → ℕ) (law : (a b k : ℕ) → op a b % 2 ^ k ≡ op (a % 2 ^ k) (b % 2 ^ k)) where
    first_bits : (x y : ℕ) → narrow w (op (narrow w x) (narrow w y)) ≡ narrow w (op x y)
    unfolding narrow
    first_bits x y =
        law (x % 2 ^ w) (y % 2 ^ w) w ∙ (λ i. op (mod-mod x (2 ^ w) i) (mod-mod y (2 ^ w) i)) ∙ sym (law x y w)

  pub narrow_at : (vs : List ℕ) (i : ℕ) → get_or (map (narrow w) vs) i 0 ≡ narrow w (get_or vs i 0)
  narrow_at vs i = ap (get_or (map (narrow w) vs) i) (sym (narrow_zero w)) ∙ get_or-map (narrow w) vs i 0

  -- an operation of two operands, on the reduced ones: from 32 bits on these are the operands themselves
  operands : (f : ℕ → ℕ → ℕ) (vs : List ℕ) → (w ≤ 32 → (x y : ℕ) → Word y → narrow w (f (narrow w x) (narrow w y)) ≡ narrow w (f x y))
      → Words vs → narrow w (f (get_or (map (narrow w) vs) 0 0) (get_or (map (narrow w) vs) 1 0))
      ≡ narrow w (f (get_or vs 0 0) (get_or vs 1 0))
  operands f vs law words = (λ i. narrow w (f (narrow_at vs 0 i) (narrow_at vs 1 i))) ∙ go (dec_le w 32)
    where
      whole : (w ≤ 32 → ⊥) → (i : ℕ) → narrow w (get_or vs i 0) ≡ get_or vs i 0
      whole n i =
          let m : 2 ^ 32 ≤ 2 ^ w = pow_mono {i = 32} (omega (arith, n)) in
          narrow_same w (get_or vs i 0) (omega (arith, words i, m))

      go : Dec (w ≤ 32) → narrow w (f (narrow w (get_or vs 0 0)) (narrow w (get_or vs 1 0))) ≡ narrow w (f (get_or vs 0 0) (get_or vs 1 0))
      go (yes h) = law h (get_or vs 0 0) (get_or vs 1 0) (words 1)
      go (no n) = (λ i. narrow w (f (whole n 0 i) (whole n 1 i)))

  pub narrow_first : (op : ℕ) → op ≤ 5 → (vs : List ℕ) → Words vs → narrow w (operate op (map (narrow w) vs)) ≡ narrow w (operate op vs)
  unfolding operate
  narrow_first zero l vs words = operands (λ x y. wrap (x + y)) vs
      (λ h x y q. wrapped h (narrow w x + narrow w y) ∙ first_add x y ∙ sym (wrapped h (x + y))) words
  narrow_first (suc zero) l vs words = operands (λ x y. wrap (x + 2 ^ 32 - y)) vs
      (λ h x y q. wrapped h (narrow w x + 2 ^ 32 - narrow w y) ∙ first_subtract x y q ∙ sym (wrapped h (x + 2 ^ 32 - y))) words
  narrow_first (suc (suc zero)) l vs words = operands bit_and vs (λ h x y q. first_bits bit_and and_mod x y) words
  narrow_first (suc (suc (suc zero))) l vs words = operands bit_or vs (λ h x y q. first_bits bit_or or_mod x y) words
  narrow_first (suc (suc (suc (suc zero)))) l vs words = operands bit_xor vs (λ h x y q. first_bits bit_xor xor_mod x y) words
  narrow_first (suc (suc (suc (suc (suc zero))))) l vs words = operands (λ x y. wrap (2 * x)) vs
      (λ h x y q. wrapped h (2 * narrow w x) ∙ first_double x ∙ sym (wrapped h (2 * x))) words
  narrow_first (suc (suc (suc (suc (suc (suc op)))))) l vs words = absurd (omega (arith, l))
