-- what a count, a search and a test say
use Prim.Native.Nat.{ℕ, zero, suc, ◌+◌, ◌-◌, ◌≤◌, ◌<◌}
use mathlib.Core.Bool.{Bool, true, false, ◌&&◌, ◌||◌, not}
use mathlib.Core.Path.{◌≡◌, refl, subst, sym, ap}
use mathlib.Core.Logic.{◌⊎◌, inl, inr}
use native.Mathlib.Omega.{arith}
use native.Mathlib.Decide.{ℕ_discrete}
use lib.Dec.{T, eqb, eqb_refl, eqb-suc-zero}
use Rattle.table.specs.Pick.{pick}
use Rattle.table.specs.Find.{one, total, highest, lowest, all, back_by, back}

pub both : (a b : Bool) → T (a && b) → T a × T b
both true b h = (tt, h)
both false b h = absurd h

pub pair : (a b : Bool) → T a → T b → T (a && b)
pair true b x y = y
pair false b x y = absurd x

pub either : (a b : Bool) → T (a || b) → T a ⊎ T b
either true b h = inl tt
either false b h = inr h

pub orl : (a b : Bool) → T a → T (a || b)
orl true b x = tt
orl false b x = absurd x

pub orr : (a b : Bool) → T b → T (a || b)
orr true b x = tt
orr false b x = x

pub same : (m n : ℕ) → m ≡ n → T (eqb m n)
same m n e = subst (λ x. T (eqb m x)) e (eqb_refl m)

pub isnt : (b : Bool) → T (not b) → T b → ⊥
isnt true h x = h
isnt false h x = x

-- the sum
pub total_one : (g : ℕ → ℕ) (k i : ℕ) → 1 ≤ i → i ≤ k → g i ≤ total g k
unfolding total
total_one g zero i a b = absurd (omega arith)
total_one g (suc k) i a b = go (ℕ_discrete i (suc k)) (λ c. total_one g k i a c)
  where
    go : Dec (i ≡ suc k) → (i ≤ k → g i ≤ total g k) → g i ≤ g (suc k) + total g k
    go (yes e) f = omega (arith, ap g e)
    go (no e) f = omega (arith, f (omega arith))

pub total_two : (g : ℕ → ℕ) (k i j : ℕ) → 1 ≤ i → i < j → j ≤ k → g i + g j ≤ total g k
unfolding total
total_two g zero i j a l b = absurd (omega arith)
total_two g (suc k) i j a l b = go (ℕ_discrete j (suc k)) (λ c. total_two g k i j a l c)
  where
    go : Dec (j ≡ suc k) → (j ≤ k → g i + g j ≤ total g k) → g i + g j ≤ g (suc k) + total g k
    go (yes e) f = omega (arith, ap g e, total_one g k i a (omega arith))
    go (no e) f = omega (arith, f (omega arith))

pub total_some : (g : ℕ → ℕ) (k : ℕ) → 1 ≤ total g k → (i : ℕ) × (1 ≤ i) × (i ≤ k) × (1 ≤ g i)
unfolding total
total_some g zero h = absurd (omega arith)
total_some g (suc k) h = go (g (suc k)) refl (λ c. total_some g k c)
  where
    go : (x : ℕ) → g (suc k) ≡ x → (1 ≤ total g k → (i : ℕ) × (1 ≤ i) × (i ≤ k) × (1 ≤ g i)) → (i : ℕ) × (1 ≤ i) × (i ≤ suc k) × (1 ≤ g i)
    go zero e f = let r = f (omega (arith, h, e)) in (r.0, r.1, omega (arith, r.2), r.3)
    go (suc x) e f = (suc k, omega arith, omega arith, omega (arith, e))

pub one_true : (b : Bool) → T b → 1 ≤ one b
one_true true h = omega arith
one_true false h = absurd h

pub one_some : (b : Bool) → 1 ≤ one b → T b
one_some true h = tt
one_some false h = omega (arith, h)

-- the highest
pub highest_bound : (p : ℕ → Bool) (k : ℕ) → highest p k ≤ k
unfolding highest
highest_bound p zero = omega arith
highest_bound p (suc k) = go (p (suc k)) (highest_bound p k)
  where
    go : (b : Bool) → highest p k ≤ k → pick b (suc k) (highest p k) ≤ suc k
    go true h = omega arith
    go false h = omega arith

pub highest_passes : (p : ℕ → Bool) (k : ℕ) → (highest p k ≡ 0 → ⊥) → T (p (highest p k))
unfolding highest
highest_passes p zero h = absurd (h refl)
highest_passes p (suc k) h = go (p (suc k)) refl (λ f. highest_passes p k f) h
  where
    go : (b : Bool) → p (suc k) ≡ b → ((highest p k ≡ 0 → ⊥) → T (p (highest p k))) → (pick b (suc k) (highest p k) ≡ 0 → ⊥)
        → T (p (pick b (suc k) (highest p k)))
    go true e f h = rw e tt
    go false e f h = f h

pub highest_hit : (p : ℕ → Bool) (k i : ℕ) → 1 ≤ i → i ≤ k → T (p i) → highest p k ≡ 0 → ⊥
unfolding highest
highest_hit p zero i a b h z = omega arith
highest_hit p (suc k) i a b h z = go (ℕ_discrete i (suc k)) (p (suc k)) refl (λ c d. highest_hit p k i a c h d) z
  where
    go : Dec (i ≡ suc k) → (x : Bool) → p (suc k) ≡ x → (i ≤ k → highest p k ≡ 0 → ⊥) → pick x (suc k) (highest p k) ≡ 0 → ⊥
    go d true e f z = omega (arith, z)
    go (yes q) false e f z = subst T e (subst (λ x. T (p x)) q h)
    go (no q) false e f z = f (omega arith) z

-- the lowest that fails, and all
pub lowest_passes : (p : ℕ → Bool) (k : ℕ) → lowest p k ≡ 0 → (i : ℕ) → 1 ≤ i → i ≤ k → T (p i)
unfolding lowest
lowest_passes p zero z i a b = absurd (omega arith)
lowest_passes p (suc k) z i a b = go (ℕ_discrete i (suc k)) (parts (lowest p k) (p (suc k)) z) (λ c d. lowest_passes p k c i a d)
  where
    parts : (r : ℕ) (x : Bool) → pick (eqb r 0) (pick x 0 (suc k)) r ≡ 0 → (r ≡ 0) × T x
    parts zero true h = (refl, tt)
    parts zero false h = absurd (omega (arith, h))
    parts (suc r) x h = absurd (let e : suc r ≡ 0 = rw (eqb-suc-zero r) at h in omega (arith, e))

    go : Dec (i ≡ suc k) → (lowest p k ≡ 0) × T (p (suc k)) → (lowest p k ≡ 0 → i ≤ k → T (p i)) → T (p i)
    go (yes e) h f = subst (λ x. T (p x)) (sym e) h.1
    go (no e) h f = f h.0 (omega arith)

pub all_passes : (p : ℕ → Bool) (k : ℕ) → T (all p k) → (i : ℕ) → 1 ≤ i → i ≤ k → T (p i)
unfolding all
all_passes p zero z i a b = absurd (omega arith)
all_passes p (suc k) z i a b = go (ℕ_discrete i (suc k)) (both (p (suc k)) (all p k) z) (λ c d. all_passes p k c i a d)
  where
    go : Dec (i ≡ suc k) → T (p (suc k)) × T (all p k) → (T (all p k) → i ≤ k → T (p i)) → T (p i)
    go (yes e) h f = subst (λ x. T (p x)) (sym e) h.0
    go (no e) h f = f h.1 (omega arith)

-- a test that holds at each number below m, by trying them all
pub by_trying : (p : ℕ → Bool) (m : ℕ) → T (all (λ i. p (i - 1)) m) → (i : ℕ) → i < m → T (p i)
by_trying p m h i b =
    let back : i + 1 - 1 ≡ i = omega arith in
    subst (λ j. T (p j)) back (all_passes (λ i. p (i - 1)) m h (i + 1) (omega arith) (omega arith))

pub passes_lowest : (p : ℕ → Bool) (k : ℕ) → ((i : ℕ) → 1 ≤ i → i ≤ k → T (p i)) → lowest p k ≡ 0
unfolding lowest
passes_lowest p zero f = refl
passes_lowest p (suc k) f = rw (passes_lowest p k (λ i a b. f i a (omega arith))) (go (p (suc k)) (f (suc k) (omega arith) (omega arith)))
  where
    go : (x : Bool) → T x → pick x 0 (suc k) ≡ 0
    go true h = refl
    go false h = absurd h

pub passes_all : (p : ℕ → Bool) (k : ℕ) → ((i : ℕ) → 1 ≤ i → i ≤ k → T (p i)) → T (all p k)
unfolding all
passes_all p zero f = tt
passes_all p (suc k) f = pair (p (suc k)) (all p k) (f (suc k) (omega arith) (omega arith)) (passes_all p k (λ i a b. f i a (omega arith)))

-- a value handed down does not depend on the fuel
module _ {A : Type 0} (down : ℕ → ℕ) (step : ℕ → A → A) (a : A) (lower : (n : ℕ) → 1 ≤ n → down n < n) where
  back_fuel : (k j n : ℕ) → n ≤ k → n ≤ j → back_by down step a k n ≡ back_by down step a j n
  unfolding back_by
  back_fuel zero zero n x y = refl
  back_fuel zero (suc j) zero x y = refl
  back_fuel zero (suc j) (suc n) x y = absurd (omega arith)
  back_fuel (suc k) zero zero x y = refl
  back_fuel (suc k) zero (suc n) x y = absurd (omega arith)
  back_fuel (suc k) (suc j) zero x y = refl
  back_fuel (suc k) (suc j) (suc n) x y =
      let l = lower (suc n) (omega arith) in
      ap (step (suc n)) (back_fuel k j (down (suc n)) (omega arith) (omega arith))

  pub back_step : (n : ℕ) → 1 ≤ n → back down step a n ≡ step n (back down step a (down n))
  unfolding back_by back
  back_step zero h = absurd (omega arith)
  back_step (suc n) h =
      let l = lower (suc n) h in
      ap (step (suc n)) (back_fuel n (down (suc n)) (down (suc n)) (omega arith) (omega arith))
