-- the registers of a function, filled from a chain's values
use Rattle.std.proofs.Common.{◌≡◌, ℕ, ◌+◌, ◌-◌, ◌*◌, ◌/◌, ◌%◌, ◌<◌, ◌≤◌, Bool, true, false, ◌&&◌, eqb, ltb, ◌⊎◌, List, [], ◌∷◌, map, length}
use Rattle.std.proofs.Common.{◌++◌, replicate, length-append, length-drop, length-take-le, get_or-take, take, get_or, drop, set, sym}
use Rattle.std.proofs.Common.{refl, ap, ◌∙◌, subst, inl, inr, arith, length-set, get_or-drop, get_or-set_other}
use Rattle.std.proofs.Common.{get_or-set_same, drop-drop, ext_get_or, ltb-false, lt-ltb, eq-eqb, ne_eqb}
use native.Mathlib.Decide.{ℕ_discrete, dec_lt}
use lib.ListN.{length-replicate, get_or-append}
use Rattle.std.proofs.lemmas.List.{get_or-append_right, get_or-replicate}
use Rattle.table.proofs.Tests.{ltb_no}
use Rattle.table.specs.Pick.{pick}
use Rattle.table.specs.Bytes.{nodes, next}
use Rattle.table.specs.Naming.{chain}
use Rattle.rules.specs.State.{entry, fill}
use Rattle.table.specs.Working.{Taken}
use Rattle.circuit.proofs.ChainLaws.{chain_end, chain_here, next_in}
use Rattle.rules.proofs.StateLaws.{length_fill, get_d_alter}

-- place k is a register of g before i
abbrev filled_by : ℕ → ℕ → ℕ → Bool
filled_by g i k = eqb (k / 8 + 1) g && ltb (k % 8) i

-- the first i registers of g are filled
pub record FilledTo (vs l₀ l : List ℕ) (g i : ℕ) : Type 0 where
  pub sized : length l ≡ length l₀
  pub each : (k : ℕ) → k < length l₀ → get_or l k 0 ≡ pick (filled_by g i k) (get_or vs (k % 8) 0) (get_or l₀ k 0)

both_no : (b : Bool) → (b && false) ≡ false
both_no true = refl
both_no false = refl

pub filled_start : (vs l₀ : List ℕ) (g : ℕ) → FilledTo vs l₀ l₀ g 0
filled_start vs l₀ g = record {
  sized = refl;
  each = λ k h. sym (ap (λ b. pick b (get_or vs (k % 8) 0) (get_or l₀ k 0))
      (ap (λ b. eqb (k / 8 + 1) g && b) (ltb_no (k % 8) 0 (λ x. omega arith)) ∙ both_no (eqb (k / 8 + 1) g)));
}

module _ (vs l₀ l : List ℕ) (g i : ℕ) (h : FilledTo vs l₀ l g i) (few : i < 8) (some : 1 ≤ g) (base x : ℕ) (eb : base ≡ 8 * (g - 1))
    (value_is : x ≡ get_or vs i 0) where
  each_next : (k : ℕ) → k < length l₀ → Dec (k ≡ base + i)
      → get_or (set l (base + i) x) k 0 ≡ pick (filled_by g (i + 1) k) (get_or vs (k % 8) 0) (get_or l₀ k 0)
  each_next k q (yes e) =
      let a : k / 8 + 1 ≡ g = omega arith in
      let b : k % 8 ≡ i = omega arith in
      rw (eq-eqb (k / 8 + 1) g a, lt-ltb (k % 8) (i + 1) (omega arith))
      (subst (λ j. get_or (set l (base + i) x) j 0 ≡ get_or vs (k % 8) 0) (sym e)
      (get_or-set_same l (base + i) x 0 (omega (arith, h.sized)) ∙ value_is ∙ ap (λ j. get_or vs j 0) (sym b)))
  each_next k q (no e) = get_or-set_other l (base + i) k x 0 e ∙ h.each k q ∙ ap (λ b. pick b (get_or vs (k % 8) 0) (get_or l₀ k 0))
      (go (ℕ_discrete (k / 8 + 1) g))
    where
      near : k / 8 + 1 ≡ g → ltb (k % 8) i ≡ ltb (k % 8) (i + 1)
      near a = go' (dec_lt (k % 8) i)
        where
          go' : Dec (k % 8 < i) → ltb (k % 8) i ≡ ltb (k % 8) (i + 1)
          go' (yes y) = lt-ltb (k % 8) i y ∙ sym (lt-ltb (k % 8) (i + 1) (omega arith))
          go' (no y) = ltb_no (k % 8) i y ∙ sym (ltb_no (k % 8) (i + 1) (λ z. e (omega arith)))

      go : Dec (k / 8 + 1 ≡ g) → filled_by g i k ≡ filled_by g (i + 1) k
      go (yes a) = ap (λ b. eqb (k / 8 + 1) g && b) (near a)
      go (no a) = ap (λ b. b && ltb (k % 8) i) (ne_eqb (k / 8 + 1) g a) ∙ sym (ap (λ b. b && ltb (k % 8) (i + 1)) (ne_eqb (k / 8 + 1) g a))

  pub filled_next : FilledTo vs l₀ (set l (base + i) x) g (i + 1)
  filled_next = record {
    sized = length-set l (base + i) x ∙ h.sized;
    each = λ k q. each_next k q (ℕ_discrete k (base + i));
  }

-- what stands at a place of the whole
fill_at : (vs l₀ : List ℕ) (g k : ℕ) → k < length l₀
    → get_or (fill g vs l₀) k 0 ≡ pick (eqb (k / 8 + 1) g) (get_or vs (k % 8) 0) (get_or l₀ k 0)
unfolding fill
fill_at vs l₀ g k r = get_d_alter (λ j x. pick (eqb (j / 8 + 1) g) (get_or vs (j % 8) 0) x) 0 l₀ k 0 r
    ∙ ap (λ j. pick (eqb (j / 8 + 1) g) (get_or vs (j % 8) 0) (get_or l₀ k 0)) plain
  where
    plain : 0 + k ≡ k
    plain = omega arith

-- the rest is zero before, and so are the values past the first i
pub filled_over : (vs l₀ z l : List ℕ) (g i : ℕ) → z ≡ fill g [] l₀ → FilledTo vs z l g i
    → ((j : ℕ) → i ≤ j → j < 8 → get_or vs j 0 ≡ 0) → l ≡ fill g vs l₀
filled_over vs l₀ z l g i ez h zero = ext_get_or 0 l (fill g vs l₀) (h.sized ∙ sized ∙ sym (length_fill g vs l₀))
    (λ k r. each k (omega (arith, h.sized, sized)) ∙ sym (fill_at vs l₀ g k (omega (arith, h.sized, sized))))
  where
    sized : length z ≡ length l₀
    sized = ap length ez ∙ length_fill g [] l₀

    before : (k : ℕ) → k < length l₀ → get_or z k 0 ≡ pick (eqb (k / 8 + 1) g) 0 (get_or l₀ k 0)
    before k r = ap (λ m. get_or m k 0) ez ∙ fill_at [] l₀ g k r

    by : (k : ℕ) → k < length l₀ → (b c : Bool) → eqb (k / 8 + 1) g ≡ b → ltb (k % 8) i ≡ c
        → pick (b && c) (get_or vs (k % 8) 0) (pick b 0 (get_or l₀ k 0)) ≡ pick b (get_or vs (k % 8) 0) (get_or l₀ k 0)
    by k r true true eb ec = refl
    by k r true false eb ec = sym (zero (k % 8) (ltb-false (k % 8) i ec) (omega arith))
    by k r false c eb ec = refl

    each : (k : ℕ) → k < length l₀ → get_or l k 0 ≡ pick (eqb (k / 8 + 1) g) (get_or vs (k % 8) 0) (get_or l₀ k 0)
    each k r = h.each k (omega (arith, sized)) ∙ ap (pick (filled_by g i k) (get_or vs (k % 8) 0)) (before k r)
        ∙ by k r (eqb (k / 8 + 1) g) (ltb (k % 8) i) refl refl

-- the eight registers of g overwritten by zeros
module _ (l : List ℕ) (g : ℕ) (some : 1 ≤ g) (room : 8 * g ≤ length l) (base : ℕ) (eb : base ≡ 8 * (g - 1)) (z : List ℕ)
    (ez : z ≡ replicate 8 0) where
  front : length (take base l) ≡ base
  front = length-take-le base l (omega arith)

  eight : length z ≡ 8
  eight = ap length ez ∙ length-replicate {A = ℕ} 8 0

  over : (i : ℕ) → i < length l → Dec (i < base) → Dec (i < base + 8)
      → get_or (take base l ++ (z ++ drop 8 (drop base l))) i 0 ≡ pick (eqb (i / 8 + 1) g) 0 (get_or l i 0)
  over i q (yes a) b =
      get_or-append (take base l) _ 0 i (omega (arith, front)) ∙ get_or-take base l i 0 a
      ∙ sym (ap (λ c. pick c 0 (get_or l i 0)) (ne_eqb (i / 8 + 1) g (λ e. omega arith)))
  over i q (no a) (yes b) =
      get_or-append_right (take base l) _ base i 0 front (omega arith) ∙ get_or-append z _ 0 (i - base) (omega (arith, eight))
      ∙ ap (λ y. get_or y (i - base) 0) ez ∙ get_or-replicate 8 (i - base) 0 0 (omega arith)
      ∙ sym (ap (λ c. pick c 0 (get_or l i 0)) (eq-eqb (i / 8 + 1) g (omega arith)))
  over i q (no a) (no b) =
      let back : base + (8 + (i - base - 8)) ≡ i = omega arith in
      get_or-append_right (take base l) _ base i 0 front (omega arith) ∙ get_or-append_right z _ 8 (i - base) 0 eight (omega arith)
      ∙ get_or-drop 8 (drop base l) (i - base - 8) 0 ∙ get_or-drop base l (8 + (i - base - 8)) 0 ∙ ap (λ j. get_or l j 0) back
      ∙ sym (ap (λ c. pick c 0 (get_or l i 0)) (ne_eqb (i / 8 + 1) g (λ e. omega arith)))

  pub blanked : take base l ++ (z ++ drop 8 (drop base l)) ≡ fill g [] l
  blanked =
      let long : length (take base l ++ (z ++ drop 8 (drop base l))) ≡ length l =
      simp (length-append, length-drop) (omega (arith, front, eight)) in
      ext_get_or 0 _ (fill g [] l) (long ∙ sym (length_fill g [] l))
      (λ i q. over i (omega (arith, long)) (dec_lt i base) (dec_lt i (base + 8)) ∙ sym (fill_at [] l g i (omega (arith, long))))

pub filled_end : (vs l₀ l : List ℕ) (g i : ℕ) → FilledTo vs l₀ l g i → 8 ≤ i → l ≡ fill g vs l₀
filled_end vs l₀ l g i h q = ext_get_or 0 l (fill g vs l₀) (h.sized ∙ sym (length_fill g vs l₀))
    (λ k r. each k (omega (arith, h.sized)) ∙ sym (fill_at vs l₀ g k (omega (arith, h.sized))))
  where
    and_true : (b : Bool) → (b && true) ≡ b
    and_true true = refl
    and_true false = refl

    each : (k : ℕ) → k < length l₀ → get_or l k 0 ≡ pick (eqb (k / 8 + 1) g) (get_or vs (k % 8) 0) (get_or l₀ k 0)
    each k r = h.each k r
        ∙ ap (λ b. pick b (get_or vs (k % 8) 0) (get_or l₀ k 0))
        (ap (λ b. eqb (k / 8 + 1) g && b) (lt-ltb (k % 8) i (omega arith)) ∙ and_true (eqb (k / 8 + 1) g))

-- .. from the values of a chain, of which `at` comes next; those after the last value with 0
pub record GivenTo (keep : ℕ → ℕ) (t value vs l₀ l : List ℕ) (g i at : ℕ) : Type 0 where
  pub inside : at ≤ nodes t
  pub tail : drop i vs ≡ map keep (map (entry value 0) (chain t at))
  pub filled : FilledTo vs l₀ l g i

module _ (keep : ℕ → ℕ) (t : List ℕ) (fair : Taken t) (value : List ℕ) (c : ℕ) (low : c ≤ nodes t) (l₀ : List ℕ) (g : ℕ) where
  abbrev vs : List ℕ
  vs = map keep (map (entry value 0) (chain t c))

  pub given_start : GivenTo keep t value vs l₀ l₀ g 0 c
  given_start = record {
    inside = low;
    tail = refl;
    filled = filled_start vs l₀ g;
  }

  module _ (l : List ℕ) (i at : ℕ) (h : GivenTo keep t value vs l₀ l g i at) (few : i < 8) (some : 1 ≤ g) (base x on : ℕ)
      (eb : base ≡ 8 * (g - 1)) (here : at ≡ 0 → ⊥) (ex : x ≡ keep (entry value 0 at)) (eo : on ≡ next t at) where
    chain_is : map keep (map (entry value 0) (chain t at)) ≡ keep (entry value 0 at) ∷ map keep (map (entry value 0) (chain t on))
    chain_is = ap (λ m. map keep (map (entry value 0) m)) (chain_here t fair at here h.inside on eo)

    value_is : x ≡ get_or vs i 0
    value_is = ex ∙ ap (λ m. get_or m 0 0) (sym chain_is) ∙ ap (λ m. get_or m 0 0) (sym h.tail) ∙ get_or-drop i vs 0 0
        ∙ ap (λ j. get_or vs j 0) plain
      where
        plain : i + 0 ≡ i
        plain = omega arith

    pub given_next : GivenTo keep t value vs l₀ (set l (base + i) x) g (i + 1) on
    given_next = record {
      inside = next_in t fair at here h.inside on eo;
      tail = sym (drop-drop 1 i vs) ∙ ap (drop 1) (h.tail ∙ chain_is);
      filled = filled_next vs l₀ l g i h.filled few some base x eb value_is;
    }

  -- at the end of the chain, or of the registers
  pub given_end : (z l : List ℕ) (i at : ℕ) → l₀ ≡ fill g [] z → GivenTo keep t value vs l₀ l g i at → (at ≡ 0) ⊎ (8 ≤ i) → l ≡ fill g vs z
  given_end z l i at ez h q = filled_over vs z l₀ l g i ez h.filled (λ j a b. past q j a b)
    where
      past : (at ≡ 0) ⊎ (8 ≤ i) → (j : ℕ) → i ≤ j → j < 8 → get_or vs j 0 ≡ 0
      past (inl e) j a b =
          let back : i + (j - i) ≡ j = omega arith in
          sym (ap (λ m. get_or vs m 0) back) ∙ sym (get_or-drop i vs (j - i) 0)
          ∙ ap (λ m. get_or m (j - i) 0) (h.tail ∙ ap (λ m. map keep (map (entry value 0) m)) (chain_end t fair at e))
      past (inr e) j a b = absurd (omega arith)
