-- the lowest number that fails a test: it fails, and those below it pass; tests that agree have the same
use Prim.Native.Nat.{ℕ, zero, suc, ◌+◌, ◌≤◌, ◌<◌}
use mathlib.Core.Bool.{Bool, true, false}
use mathlib.Core.Path.{◌≡◌, refl, ap, ap₂, ◌∙◌}
use native.Mathlib.Omega.{arith}
use lib.Dec.{T, eqb, eqb-suc-zero}
use Rattle.table.specs.Pick.{pick, Range}
use Rattle.table.specs.Find.{lowest}
use Rattle.table.proofs.FindLaws.{lowest_passes}

pub record Lowest (p : ℕ → Bool) (k r : ℕ) : Type 0 where
  pub there : Range k r
  pub fails : p r ≡ false
  pub below : (i : ℕ) → 1 ≤ i → i < r → T (p i)

pub lowest_fails : (p : ℕ → Bool) (k : ℕ) → (lowest p k ≡ 0 → ⊥) → Lowest p k (lowest p k)
unfolding lowest
lowest_fails p zero h = absurd (h refl)
lowest_fails p (suc k) h = go (lowest p k) (p (suc k)) refl refl (λ d. lowest_fails p k d) h
  where
    go : (r : ℕ) (b : Bool) → lowest p k ≡ r → p (suc k) ≡ b → ((lowest p k ≡ 0 → ⊥) → Lowest p k (lowest p k))
        → (pick (eqb r 0) (pick b 0 (suc k)) r ≡ 0 → ⊥) → Lowest p (suc k) (pick (eqb r 0) (pick b 0 (suc k)) r)
    go zero true e f ih h = absurd (h refl)
    go zero false e f ih h = record {
      there = (omega arith, omega arith);
      fails = f;
      below = λ i a b. lowest_passes p k e i a (omega arith);
    }
    go (suc r) b e f ih h = rw (eqb-suc-zero r) (found (rw e at ih (λ z. omega (arith, z))))
      where
        found : Lowest p k (suc r) → Lowest p (suc k) (suc r)
        found l = record { there = (l.there.0, omega (arith, l.there.1)); fails = l.fails; below = l.below }

pub lowest_same : (p q : ℕ → Bool) (k : ℕ) → ((i : ℕ) → Range k i → p i ≡ q i) → lowest p k ≡ lowest q k
unfolding lowest
lowest_same p q zero h = refl
lowest_same p q (suc k) h =
    ap₂ (λ r b. pick (eqb r 0) (pick b 0 (suc k)) r) (lowest_same p q k (λ i a. h i (a.0, omega (arith, a.1))))
    (h (suc k) (omega arith, omega arith))

kept : (r : ℕ) → pick (eqb r 0) 0 r ≡ r
kept zero = refl
kept (suc r) = ap (λ b. pick b 0 (suc r)) (eqb-suc-zero r)

-- one that passes at the end changes nothing, and so do several
lowest_more : (p : ℕ → Bool) (k : ℕ) → p (suc k) ≡ true → lowest p (suc k) ≡ lowest p k
unfolding lowest
lowest_more p k e = ap (λ b. pick (eqb (lowest p k) 0) (pick b 0 (suc k)) (lowest p k)) e ∙ kept (lowest p k)

pub lowest_past : (p : ℕ → Bool) (k d : ℕ) → ((i : ℕ) → k < i → i ≤ d + k → p i ≡ true) → lowest p (d + k) ≡ lowest p k
lowest_past p k zero h = let e : zero + k ≡ k = omega arith in ap (lowest p) e
lowest_past p k (suc d) h =
    let e : suc d + k ≡ suc (d + k) = omega arith in
    ap (lowest p) e ∙ lowest_more p (d + k) (h (suc (d + k)) (omega arith) (omega arith))
    ∙ lowest_past p k d (λ i a b. h i a (omega (arith, b)))
