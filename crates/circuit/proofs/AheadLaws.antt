-- the first node that the sets tell, where it is known without a look at them: a node that is ready, and none below it
use Rattle.std.proofs.Common.{◌≡◌, ℕ, ◌<◌, ◌≤◌, Bool, true, false, not, ◌&&◌, ◌||◌, T, sym, refl, ap, ◌∙◌, true≢false, arith}
use native.Mathlib.Decide.{ℕ_discrete, dec_lt}
use Rattle.table.specs.Find.{lowest}
use Rattle.table.proofs.FindLaws.{lowest_passes}
use Rattle.rules.specs.Sets.{Sets, Stays, ready, first_in}
use Rattle.table.proofs.LowestLaws.{Lowest, lowest_fails}

unready : (x : Sets) (m : ℕ) → T (not (ready x m)) → ready x m ≡ false
unready x m h = go (ready x m) h
  where
    go : (b : Bool) → T (not b) → b ≡ false
    go true h = absurd h
    go false h = refl

-- below the first node none is ready
pub below_first : (x : Sets) (n : ℕ) → n ≡ first_in x 512 → 1 ≤ n → (m : ℕ) → 1 ≤ m → m < n → ready x m ≡ false
unfolding first_in
below_first x n e low m p q =
    let l : Lowest (λ k. not (ready x k)) 512 (lowest (λ k. not (ready x k)) 512) =
    lowest_fails (λ k. not (ready x k)) 512 (λ z. omega (arith, z, e)) in
    unready x m (l.below m p (omega (arith, e, q)))

-- a ready node with none below it is the first
pub first_is : (z : Sets) (r : ℕ) → 1 ≤ r → r ≤ 512 → ready z r ≡ true → ((m : ℕ) → 1 ≤ m → m < r → ready z m ≡ false)
    → r ≡ first_in z 512
unfolding first_in
first_is z r low high here none = go (ℕ_discrete first 0)
  where
    p : ℕ → Bool
    p k = not (ready z k)

    first : ℕ
    first = lowest p 512

    not-true : (b : Bool) → b ≡ true → T (not b) → ⊥
    not-true true e h = h
    not-true false e h = true≢false (sym e)

    is_true : (b : Bool) → not b ≡ false → b ≡ true
    is_true true e = refl
    is_true false e = absurd (true≢false e)

    same : Lowest p 512 first → Dec (first < r) → Dec (r < first) → r ≡ first
    same l (yes a) b = absurd (true≢false (sym (is_true (ready z first) l.fails) ∙ none first l.there.0 a))
    same l (no a) (yes b) = absurd (not-true (ready z r) here (l.below r low b))
    same l (no a) (no b) = omega (arith, a, b)

    go : Dec (first ≡ 0) → r ≡ first
    go (yes e) = absurd (not-true (ready z r) here (lowest_passes p 512 e r low high))
    go (no e) = same (lowest_fails p 512 e) (dec_lt first r) (dec_lt r first)

-- a node that stays, its callee held as before, is as ready as before
pub ready_stays : (x y : Sets) (m : ℕ) → Stays x y m → y.held m ≡ x.held m → ready y m ≡ ready x m
ready_stays x y m s h = (λ i. s.0 i || (s.1 i && not (h i)))

pub armed_ready : (x : Sets) (m : ℕ) → x.armed m ≡ true → ready x m ≡ true
armed_ready x m e = ap (λ b. b || (x.waiting m && not (x.held m))) e

-- none is ready that was not, where nodes only leave the sets and callees are only occupied
pub never_readier : (a w h a' w' h' c d k : Bool) → a' ≡ (a && c) → w' ≡ (w && d) → h' ≡ (h || k) → (a || (w && not h)) ≡ false
    → (a' || (w' && not h')) ≡ false
never_readier a w h a' w' h' c d k ea ew eh e =
    (λ i. ea i || (ew i && not (eh i))) ∙ go a w h e
  where
    none : (w h : Bool) → (w && not h) ≡ false → ((w && d) && not (h || k)) ≡ false
    none true true e = gone d
      where
        gone : (x : Bool) → (x && false) ≡ false
        gone true = refl
        gone false = refl
    none true false e = absurd (true≢false e)
    none false h e = refl

    go : (a w h : Bool) → (a || (w && not h)) ≡ false → ((a && c) || ((w && d) && not (h || k))) ≡ false
    go true w h e = absurd (true≢false e)
    go false w h e = none w h e
