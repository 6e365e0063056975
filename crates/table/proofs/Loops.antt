-- one turn more of a loop that counts, searches or writes an array by node number
use Prim.Native.Nat.{ℕ, zero, suc, ◌+◌, ◌-◌, ◌≤◌, ◌<◌}
use mathlib.Core.Bool.{Bool, true, false, ◌&&◌}
use mathlib.Core.Path.{◌≡◌, refl, sym, ap, ◌∙◌}
use mathlib.Core.List.{List}
use native.Mathlib.Omega.{arith}
use native.Mathlib.Numerals.{add-one}
use native.Mathlib.Decide.{ℕ_discrete, dec_lt}
use lib.Dec.{eqb, ltb, leb}
use lib.ListN.{length, get_or, set, replicate, length-set, get_or-eq_default}
use lib.Seq.{get_or-set_same, get_or-set_other}
use borrow.Author.Tests.{le-leb, lt-ltb, le-ltb, eq-eqb, ne_eqb, eqb-true, ltb-true}
use Rattle.table.proofs.Tests.{true_t}
use Rattle.table.specs.Pick.{pick}
use Rattle.table.specs.Find.{one, total, highest, lowest, all}
use Rattle.table.specs.Working.{slot_of, ahead_of}
use Rattle.table.proofs.FindLaws.{all_passes}

pub total_more : (g : ℕ → ℕ) (k : ℕ) → total g (k + 1) ≡ g (k + 1) + total g k
unfolding total
total_more g k = rw add-one refl

pub highest_more : (p : ℕ → Bool) (k : ℕ) → highest p (k + 1) ≡ pick (p (k + 1)) (k + 1) (highest p k)
unfolding highest
highest_more p k = rw add-one refl

both_true : (a b : Bool) → a ≡ true → b ≡ true → (a && b) ≡ true
both_true true b x y = y
both_true false b x y = x

module _ (p : ℕ → Bool) where
  pub all_more : (k : ℕ) → all p k ≡ true → p (k + 1) ≡ true → all p (k + 1) ≡ true
  unfolding all
  all_more k h e = rw add-one (both_true (p (suc k)) (all p k) (rw add-one at e) h)

  pub all_fails : (k i : ℕ) → 1 ≤ i → i ≤ k → p i ≡ false → all p k ≡ false
  all_fails k i a b e = go (all p k) refl
    where
      go : (x : Bool) → all p k ≡ x → all p k ≡ false
      go true q = absurd (rw e at (all_passes p k (true_t (all p k) q) i a b))
      go false q = q

  pub lowest_more : (k : ℕ) → lowest p k ≡ 0 → p (k + 1) ≡ true → lowest p (k + 1) ≡ 0
  unfolding lowest
  lowest_more k h e = rw (add-one, h, rw add-one at e)

  pub lowest_here : (k : ℕ) → lowest p k ≡ 0 → p (k + 1) ≡ false → lowest p (k + 1) ≡ k + 1
  unfolding lowest
  lowest_here k h e = rw (add-one, h, rw add-one at e)

  pub lowest_kept : (k : ℕ) → (lowest p k ≡ 0 → ⊥) → lowest p (k + 1) ≡ lowest p k
  unfolding lowest
  lowest_kept k h = rw (add-one, ne_eqb (lowest p k) 0 h)

  lowest_on : (d k : ℕ) → (lowest p k ≡ 0 → ⊥) → lowest p (d + k) ≡ lowest p k
  lowest_on zero k h = ap (lowest p) (omega arith)
  lowest_on (suc d) k h =
      let r = lowest_on d k h in
      ap (lowest p) (next d k) ∙ lowest_kept (d + k) (λ z. h (sym r ∙ z)) ∙ r
    where
      next : (d k : ℕ) → suc d + k ≡ d + k + 1
      next d k = omega arith

  -- a search that stops at the first failure
  pub lowest_found : (k n : ℕ) → lowest p k ≡ 0 → p (k + 1) ≡ false → k + 1 ≤ n → lowest p n ≡ k + 1
  lowest_found k n h e b =
      let f = lowest_here k h e in
      ap (lowest p) (far n (k + 1) b) ∙ lowest_on (n - (k + 1)) (k + 1) (λ z. omega (arith, f, z)) ∙ f
    where
      far : (n m : ℕ) → m ≤ n → n ≡ n - m + m
      far n m h = omega arith

-- an array of 513 written at a number's place
module _ (v j : ℕ) (low : 1 ≤ j) (high : j ≤ 512) where
  slot_same : v ≡ j → slot_of v ≡ j
  slot_same e = rw (le-leb v 512 (omega arith)) e

  slot_other : (v ≡ j → ⊥) → j ≡ slot_of v → ⊥
  slot_other d e = go (leb v 512) e
    where
      go : (b : Bool) → j ≡ pick b v 0 → ⊥
      go true q = d (sym q)
      go false q = omega arith

  module _ (l : List ℕ) (size : length l ≡ 513) (x at : ℕ) (here : at ≡ slot_of v) where
    pub placed : get_or (set l at x) j 0 ≡ pick (eqb v j) x (get_or l j 0)
    placed = go (ℕ_discrete v j)
      where
        go : Dec (v ≡ j) → get_or (set l at x) j 0 ≡ pick (eqb v j) x (get_or l j 0)
        go (yes e) = rw (here ∙ slot_same e, eq-eqb v j e) (get_or-set_same l j x 0 (omega arith))
        go (no e) = rw (ne_eqb v j e) (get_or-set_other l at j x 0 (λ q. slot_other e (q ∙ here)))

  pub bumped : (l : List ℕ) → length l ≡ 513 → (at : ℕ) → at ≡ slot_of v
      → get_or (set l at (get_or l at 0 + 1)) j 0 ≡ one (eqb v j) + get_or l j 0
  bumped l size at here = go (ℕ_discrete v j)
    where
      go : Dec (v ≡ j) → get_or (set l at (get_or l at 0 + 1)) j 0 ≡ one (eqb v j) + get_or l j 0
      go (yes e) = rw (here ∙ slot_same e, eq-eqb v j e) (get_or-set_same l j (get_or l j 0 + 1) 0 (omega arith) ∙ omega arith)
      go (no e) = rw (ne_eqb v j e) (get_or-set_other l at j (get_or l at 0 + 1) 0 (λ q. slot_other e (q ∙ here)) ∙ omega arith)

  -- only what is above n is written
  pub ahead_placed : (l : List ℕ) → length l ≡ 513 → (n at : ℕ) → at ≡ ahead_of n v
      → get_or (set l at n) j 0 ≡ pick (ltb n j && eqb v j) n (get_or l j 0)
  ahead_placed l size n at here = go (dec_lt n v)
    where
      none : (x : ℕ) → (a b : Bool) → (a ≡ true → b ≡ true → ⊥) → pick (a && b) n x ≡ x
      none x true true f = absurd (f refl refl)
      none x true false f = refl
      none x false b f = refl

      swap : (d : Dec (v ≡ j)) → n < v → pick (eqb v j) n (get_or l j 0) ≡ pick (ltb n j && eqb v j) n (get_or l j 0)
      swap (yes e) h = rw (lt-ltb n j (omega arith), eq-eqb v j e)
      swap (no e) h = sym (rw (ne_eqb v j e) (none (get_or l j 0) (ltb n j) false (λ a b. let z : ◌≡◌ {A = ℕ} 0 1 = cc in omega arith)))

      go : Dec (n < v) → get_or (set l at n) j 0 ≡ pick (ltb n j && eqb v j) n (get_or l j 0)
      go (yes h) = placed l size n at (here ∙ ap (λ b. pick b (slot_of v) 0) (lt-ltb n v h)) ∙ swap (ℕ_discrete v j) h
      go (no h) =
          let z : at ≡ 0 = here ∙ ap (λ b. pick b (slot_of v) 0) (le-ltb n v (omega arith)) in
          get_or-set_other l at j n 0 (λ q. omega arith) ∙ sym (none (get_or l j 0) (ltb n j) (eqb v j) (λ a b. absurd (h (below a b))))
        where
          below : ltb n j ≡ true → eqb v j ≡ true → n < v
          below a b = let x = ltb-true n j a in let y = eqb-true v j b in omega arith

pub bumped_few : (l : List ℕ) (at b : ℕ) → ((j : ℕ) → get_or l j 0 ≤ b) → (j : ℕ) → get_or (set l at (get_or l at 0 + 1)) j 0 ≤ b + 1
bumped_few l at b h j = go (ℕ_discrete j at) (dec_lt at (length l))
  where
    go : Dec (j ≡ at) → Dec (at < length l) → get_or (set l at (get_or l at 0 + 1)) j 0 ≤ b + 1
    go (yes e) (yes i) = rw e (omega (arith, get_or-set_same l at (get_or l at 0 + 1) 0 i, h at))
    go (yes e) (no i) = rw (
      e,
      get_or-eq_default (set l at (get_or l at 0 + 1)) 0 {n = at} (omega
          (arith, length-set l at (get_or l at 0 + 1))),
    ) (omega arith)
    go (no e) i = omega (arith, get_or-set_other l at j (get_or l at 0 + 1) 0 e, h j)

pub blank_at {ℓ} : {A : Type ℓ} (k j : ℕ) (a : A) → get_or (replicate k a) j a ≡ a
blank_at zero j a = refl
blank_at (suc k) zero a = refl
blank_at (suc k) (suc j) a = blank_at k j a
