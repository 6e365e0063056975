-- the fields that a kind allows, arm by arm
use Prim.Native.Nat.{ℕ, ◌≤◌, ◌<◌}
use mathlib.Core.Bool.{true, false, ◌&&◌}
use mathlib.Core.Path.{◌≡◌, sym, ◌∙◌}
use mathlib.Core.Logic.{◌⊎◌, inl, inr}
use native.Mathlib.Omega.{arith}
use native.Mathlib.Decide.{ℕ_discrete, dec_le}
use lib.Dec.{eqb, leb, leb→le}
use borrow.Author.Tests.{ne_eqb}
use Rattle.table.specs.Check.{fields}
use Rattle.table.proofs.Tests.{never, true_t}
use Rattle.table.proofs.FindLaws.{both}

module _ (k e w c : ℕ) where
  pub leaf : (k ≡ 1) ⊎ (k ≡ 7) → fields k e w c ≡ (eqb e 0 && eqb c 0)
  unfolding fields
  leaf (inl p) = rw p
  leaf (inr p) = rw p

  pub parameter : k ≡ 2 → fields k e w c ≡ (eqb w 0 && eqb c 0)
  unfolding fields
  parameter p = rw p

  pub primitive : k ≡ 3 → fields k e w c ≡ (leb e 10 && eqb w 0)
  unfolding fields
  primitive p = rw p

  pub call : k ≡ 4 → fields k e w c ≡ eqb e 0
  unfolding fields
  call p = rw p

  pub branching : 5 ≤ k → k < 7 → fields k e w c ≡ (eqb e 0 && eqb w 0)
  unfolding fields
  branching a b = go (ℕ_discrete k 5)
    where
      go : Dec (k ≡ 5) → fields k e w c ≡ (eqb e 0 && eqb w 0)
      go (yes p) = rw p
      go (no p) = let q : k ≡ 6 = omega arith in rw q

  pub unknown : (k < 1) ⊎ (7 < k) → fields k e w c ≡ false
  unfolding fields
  unknown h = simp (
    ne_eqb k 1 (λ p. other p h (omega arith, omega arith)),
    ne_eqb k 2 (λ p. other p h (omega arith, omega arith)),
    ne_eqb k 3 (λ p. other p h (omega arith, omega arith)),
    ne_eqb k 4 (λ p. other p h (omega arith, omega arith)),
    ne_eqb k 5 (λ p. other p h (omega arith, omega arith)),
    ne_eqb k 6 (λ p. other p h (omega arith, omega arith)),
    ne_eqb k 7 (λ p. other p h (omega arith, omega arith)),
  )
    where
      other : {j : ℕ} → k ≡ j → (k < 1) ⊎ (7 < k) → (1 ≤ j) × (j ≤ 7) → ⊥
      other p (inl l) r = omega (arith, r.0)
      other p (inr l) r = omega (arith, r.1)

  pub kind_known : fields k e w c ≡ true → k ≤ 7
  kind_known h = go (dec_le k 7)
    where
      go : Dec (k ≤ 7) → k ≤ 7
      go (yes q) = q
      go (no q) = never (sym (unknown (inr (omega arith))) ∙ h)

  pub operation_known : fields k e w c ≡ true → k ≡ 3 → e ≤ 10
  operation_known h p = leb→le e 10 (both (leb e 10) (eqb w 0) (true_t (leb e 10 && eqb w 0) (sym (primitive p) ∙ h))).0

  -- what the arms before leave
  pub past_four : 1 ≤ k → ((k ≡ 1) ⊎ (k ≡ 7) → ⊥) → (k ≡ 2 → ⊥) → (k ≡ 3 → ⊥) → (k ≡ 4 → ⊥) → 5 ≤ k
  past_four a h x y z = let w : k ≡ 1 → ⊥ = λ p. h (inl p) in omega arith

  pub past_seven : 7 ≤ k → ((k ≡ 1) ⊎ (k ≡ 7) → ⊥) → 7 < k
  past_seven a h = let w : k ≡ 7 → ⊥ = λ p. h (inr p) in omega arith
