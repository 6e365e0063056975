-- four columns read back to their number, which no zero stands before
use Prim.Native.Nat.{ℕ, ◌+◌, ◌-◌, ◌*◌, ◌/◌, ◌%◌, ◌≤◌, ◌<◌}
use mathlib.Core.Path.{◌≡◌, refl, sym, ap, ap₂, ◌∙◌}
use mathlib.Core.List.{List, [], ◌∷◌}
use native.Mathlib.Omega.{arith}
use native.Mathlib.Decide.{dec_lt}
use borrow.Author.Tests.{ne_eqb}
use Rattle.table.specs.Pick.{pick}
use Rattle.pages.specs.Lines.{spaces, digit, right}
use Rattle.pages.specs.Layout.{columns, number_in}
use Rattle.pages.proofs.LineLaws.{digit_below, digit_there}

-- four columns, digit by digit
number_space : (s : List ℕ) → number_in 0 (32 ∷ s) ≡ number_in 0 s
unfolding number_in
number_space s = refl

number_digit : (v x : ℕ) (s : List ℕ) → number_in v ((48 + x) ∷ s) ≡ number_in (10 * v + x) s
unfolding number_in
number_digit v x s =
    ap (λ b. number_in (10 * v + pick b 0 (48 + x - 48)) s) (ne_eqb (48 + x) 32 (λ e. omega (arith, e)))
    ∙ ap (λ k. number_in k s) (less v x)
  where
    less : (v x : ℕ) → 10 * v + (48 + x - 48) ≡ 10 * v + x
    less v x = omega arith

number_end : (v : ℕ) → number_in v [] ≡ v
unfolding number_in
number_end v = refl

-- a column before the first digit is blank, and one from there on has its digit
column_below : (w n : ℕ) (s : List ℕ) → n < w → number_in 0 (digit w n ∷ s) ≡ number_in 0 s
column_below w n s h = ap (λ c. number_in 0 (c ∷ s)) (sym (digit_below w n h)) ∙ number_space s

column_there : (v w n : ℕ) (s : List ℕ) → w ≤ n → number_in v (digit w n ∷ s) ≡ number_in (10 * v + n / w % 10) s
column_there v w n s h = ap (λ c. number_in v (c ∷ s)) (sym (digit_there w n h)) ∙ number_digit v (n / w % 10) s

-- so the digits add up
module _ (n : ℕ) where
  abbrev units : List ℕ
  units = (48 + n % 10) ∷ []

  units_read : number_in (n / 10) units ≡ n
  units_read = number_digit (n / 10) (n % 10) [] ∙ number_end (10 * (n / 10) + n % 10) ∙ omega arith

  -- all of n above a weight, then the digit below
  tens_read : 10 ≤ n → number_in (n / 100) (digit 10 n ∷ units) ≡ n
  tens_read h = column_there (n / 100) 10 n units h ∙ ap (λ v. number_in v units) more ∙ units_read
    where
      more : 10 * (n / 100) + n / 10 % 10 ≡ n / 10
      more = omega arith

  hundreds_read : 100 ≤ n → number_in (n / 1000) (digit 100 n ∷ digit 10 n ∷ units) ≡ n
  hundreds_read h =
      column_there (n / 1000) 100 n (digit 10 n ∷ units) h ∙ ap (λ v. number_in v (digit 10 n ∷ units)) more ∙ tens_read (omega (arith, h))
    where
      more : 10 * (n / 1000) + n / 100 % 10 ≡ n / 100
      more = omega arith

  below_ten : n < 10 → number_in 0 units ≡ n
  below_ten h = ap (λ v. number_in v units) (omega (arith, h)) ∙ units_read

  below_hundred : n < 100 → Dec (n < 10) → number_in 0 (digit 10 n ∷ units) ≡ n
  below_hundred h (yes b) = column_below 10 n units b ∙ below_ten b
  below_hundred h (no b) = ap (λ v. number_in v (digit 10 n ∷ units)) (omega (arith, h)) ∙ tens_read (omega (arith, b))

  below_thousand : n < 1000 → Dec (n < 100) → number_in 0 (digit 100 n ∷ digit 10 n ∷ units) ≡ n
  below_thousand h (yes b) = column_below 100 n (digit 10 n ∷ units) b ∙ below_hundred b (dec_lt n 10)
  below_thousand h (no b) = ap (λ v. number_in v (digit 100 n ∷ digit 10 n ∷ units)) (omega (arith, h)) ∙ hundreds_read (omega (arith, b))

  pub right_reads : n < 10000 → number_in 0 (right n) ≡ n
  unfolding right
  right_reads h = go (dec_lt n 1000)
    where
      first : 10 * 0 + n / 1000 % 10 ≡ n / 1000
      first = omega (arith, h)

      go : Dec (n < 1000) → number_in 0 (digit 1000 n ∷ digit 100 n ∷ digit 10 n ∷ units) ≡ n
      go (yes b) = column_below 1000 n (digit 100 n ∷ digit 10 n ∷ units) b ∙ below_thousand b (dec_lt n 100)
      go (no b) =
          column_there 0 1000 n (digit 100 n ∷ digit 10 n ∷ units) (omega (arith, b))
          ∙ ap (λ v. number_in v (digit 100 n ∷ digit 10 n ∷ units)) first ∙ hundreds_read (omega (arith, b))

-- so no two numbers are written alike
pub right_apart : (n m : ℕ) → n < 10000 → m < 10000 → right n ≡ right m → n ≡ m
right_apart n m h k e = sym (right_reads n h) ∙ ap (number_in 0) e ∙ right_reads m k

-- columns before the first digit are blank
pub no_zeros : (n : ℕ)
    → (n < 1000 → columns 1 1 (right n) ≡ spaces 1) × (n < 100 → columns 1 2 (right n) ≡ spaces 2)
    × (n < 10 → columns 1 3 (right n) ≡ spaces 3)
unfolding right
no_zeros n = (
  λ h. ap (λ a. a ∷ []) (sym (digit_below 1000 n h)),
  λ h. ap₂ (λ a b. a ∷ b ∷ []) (blank 1000 (omega (arith, h))) (blank 100 h),
  λ h. ap₂ (λ a l. a ∷ l) (blank 1000 (omega (arith, h))) (ap₂ (λ b c. b ∷ c ∷ []) (blank 100 (omega (arith, h))) (blank 10 h)),
)
  where
    blank : (w : ℕ) → n < w → digit w n ≡ 32
    blank w h = sym (digit_below w n h)
