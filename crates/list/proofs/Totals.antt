-- the number of bits set in the tag bytes is the number of records
use Rattle.std.proofs.Common.{◌≡◌, ℕ, zero, suc, ◌+◌, ◌-◌, ◌*◌, ◌%◌, ◌^◌, ◌<◌, ◌≤◌, Bool, true, false, ◌&&◌, eqb, leb, List, ◌∷◌, length}
use Rattle.std.proofs.Common.{sym, refl, ap, ◌∙◌, subst, ap₂, mod-eq_of_lt, suc-add, arith, length-append, eq-eqb, ne_eqb, le-leb}
use native.Mathlib.Decide.{ℕ_discrete}
use lib.Count.{ones, ones_step}
use borrow.Author.Tests.{lt-leb}
use Rattle.table.specs.Pick.{pick}
use Rattle.table.specs.Bytes.{functions, nodes}
use Rattle.table.specs.Find.{one}
use Rattle.table.proofs.Passed.{passed}
use Rattle.list.specs.Arbiters.{Test}
use Rattle.list.specs.Tags.{callee_of, listed, bits_from, bytes_from, tag_length, tags_of, bits_set}
use Rattle.list.specs.Records.{record_at, calls_from, records_from, records_of}
use Rattle.table.specs.Working.{Taken}
use Rattle.list.proofs.TagFacts.{half_of, low_of}
use Rattle.list.proofs.CallLaws.{listed_called}

-- g at n, n + 1, ..: k of them
sum_from : (ℕ → ℕ) → ℕ → ℕ → ℕ
sum_from g zero n = 0
sum_from g (suc k) n = g n + sum_from g k (suc n)

sum_same : (g h : ℕ → ℕ) (k n : ℕ) → ((i : ℕ) → n ≤ i → i < n + k → g i ≡ h i) → sum_from g k n ≡ sum_from h k n
unfolding sum_from
sum_same g h zero n f = refl
sum_same g h (suc k) n f = ap₂ (λ a b. a + b) (f n (omega arith) (omega arith)) (sum_same g h k (suc n) (λ i a b. f i (omega arith)
    (omega arith)))

sum_zero : (k n : ℕ) → sum_from (λ i. 0) k n ≡ 0
unfolding sum_from
sum_zero zero n = refl
sum_zero (suc k) n = ap (λ a. 0 + a) (sum_zero k (suc n))

sum_add : (g h : ℕ → ℕ) (k n : ℕ) → sum_from (λ i. g i + h i) k n ≡ sum_from g k n + sum_from h k n
unfolding sum_from
sum_add g h zero n = refl
sum_add g h (suc k) n = ap (λ a. g n + h n + a) (sum_add g h k (suc n)) ∙ swap (g n) (h n) (sum_from g k (suc n)) (sum_from h k (suc n))
  where
    swap : (a b c d : ℕ) → a + b + (c + d) ≡ a + c + (b + d)
    swap a b c d = omega arith

sum_split : (g : ℕ → ℕ) (a b n : ℕ) → sum_from g (a + b) n ≡ sum_from g a n + sum_from g b (n + a)
unfolding sum_from
sum_split g zero b n = ap₂ (λ k m. sum_from g k m) (zero_plus b) (plus_zero n) ∙ sym (zero_plus (sum_from g b (n + 0)))
  where
    zero_plus : (b : ℕ) → 0 + b ≡ b
    zero_plus b = omega arith

    plus_zero : (n : ℕ) → n ≡ n + 0
    plus_zero n = omega arith
sum_split g (suc a) b n =
    ap (λ k. sum_from g k n) (suc-add a b) ∙ ap (λ x. g n + x) (sum_split g a b (suc n))
    ∙ group (g n) (sum_from g a (suc n)) (sum_from g b (suc n + a))
    ∙ ap (λ m. g n + sum_from g a (suc n) + sum_from g b m) (moved n a)
  where
    group : (x y z : ℕ) → x + (y + z) ≡ x + y + z
    group x y z = omega arith

    moved : (n a : ℕ) → suc n + a ≡ n + suc a
    moved n a = omega arith

sum_swap : (g : ℕ → ℕ → ℕ) (k f m n : ℕ) → sum_from (λ i. sum_from (g i) m n) k f ≡ sum_from (λ x. sum_from (λ i. g i x) k f) m n
unfolding sum_from
sum_swap g zero f m n = sym (sum_zero m n)
sum_swap g (suc k) f m n =
    ap (λ a. sum_from (g f) m n + a) (sum_swap g k (suc f) m n) ∙ sym (sum_add (g f) (λ x. sum_from (λ i. g i x) k (suc f)) m n)

-- one of k numbers from f on is c
sum_one : (b : Bool) (c k f : ℕ) → (b ≡ true → (f ≤ c) × (c < f + k)) → sum_from (λ i. one (b && eqb c i)) k f ≡ one b
sum_one false c k f h = sum_zero k f
sum_one true c k f h = go k f (h refl).0 (h refl).1
  where
    none : (k f : ℕ) → c < f → sum_from (λ i. one (eqb c i)) k f ≡ 0
    none k f l =
        sum_same (λ i. one (eqb c i)) (λ i. 0) k f (λ i a b. ap one (ne_eqb c i (λ e. omega (arith, e, a, l)))) ∙ sum_zero k f

    unroll : (k f : ℕ) → sum_from (λ i. one (eqb c i)) (suc k) f ≡ one (eqb c f) + sum_from (λ i. one (eqb c i)) k (suc f)
    unroll = unfold sum_from in (λ k f. refl)

    go : (k f : ℕ) → f ≤ c → c < f + k → sum_from (λ i. one (eqb c i)) k f ≡ 1
    go zero f a b = absurd (omega arith)
    go (suc k) f a b = unroll k f ∙ here (ℕ_discrete c f) (λ d. go k (suc f) (omega (arith, a, d)) (omega (arith, b)))
      where
        here : Dec (c ≡ f) → ((c ≡ f → ⊥) → sum_from (λ i. one (eqb c i)) k (suc f) ≡ 1)
            → one (eqb c f) + sum_from (λ i. one (eqb c i)) k (suc f) ≡ 1
        here (yes e) r = ap₂ (λ x y. one x + y) (eq-eqb c f e) (none k (suc f) (omega (arith, e)))
        here (no e) r = ap₂ (λ x y. one x + y) (ne_eqb c f e) (r e)

-- the bits of bytes
count : Test → ℕ → ℕ → ℕ
count s k n = sum_from (λ i. one (s i)) k n

ones_of : (s : Test) (k n : ℕ) → ones (bits_from s k n) ≡ count s k n
unfolding bits_from count sum_from ones
ones_of s zero n = refl
ones_of s (suc k) n =
    ones_step (one (s n) + 2 * bits_from s k (suc n))
    ∙ ap₂ (λ a b. a + ones b) (low_of (s n) (bits_from s k (suc n))) (half_of (s n) (bits_from s k (suc n)))
    ∙ ap (λ a. one (s n) + a) (ones_of s k (suc n))

bits_of : (s : Test) (k n : ℕ) → bits_set (bytes_from s k n) ≡ count s (8 * k) n
unfolding bytes_from bits_set count sum_from
bits_of s zero n = ap (λ k. sum_from (λ i. one (s i)) k n) nought
  where
    nought : 0 ≡ 8 * 0
    nought = omega arith
bits_of s (suc k) n =
    ap₂ (λ a b. a + b) (ones_of s 8 n) (bits_of s k (n + 8)) ∙ sym (sum_split (λ i. one (s i)) 8 (8 * k) n)
    ∙ ap (λ j. sum_from (λ i. one (s i)) j n) (eights k)
  where
    eights : (k : ℕ) → 8 + 8 * k ≡ 8 * suc k
    eights k = omega arith

module _ (t : List ℕ) where
  -- the records of one function, and of all
  calls_length : (f k n : ℕ) → length (calls_from t f k n) ≡ count (λ i. listed t i && eqb (callee_of t i) f) k n
  unfolding calls_from count sum_from
  calls_length f zero n = refl
  calls_length f (suc k) n = go (listed t n && eqb (callee_of t n) f) (calls_length f k (suc n))
    where
      go : (b : Bool) → length (calls_from t f k (suc n)) ≡ count (λ i. listed t i && eqb (callee_of t i) f) k (suc n)
          → length (pick b (record_at t n ∷ calls_from t f k (suc n)) (calls_from t f k (suc n))) ≡ one b + count (λ i. listed t i && eqb
          (callee_of t i) f) k (suc n)
      go true e = ap suc e ∙ suc_is (count (λ i. listed t i && eqb (callee_of t i) f) k (suc n))
        where
          suc_is : (a : ℕ) → suc a ≡ 1 + a
          suc_is a = omega arith
      go false e = e ∙ zero_plus (count (λ i. listed t i && eqb (callee_of t i) f) k (suc n))
        where
          zero_plus : (a : ℕ) → a ≡ 0 + a
          zero_plus a = omega arith

  records_length : (k f : ℕ) → length (records_from t k f) ≡ sum_from (λ g.
      count (λ i. listed t i && eqb (callee_of t i) g) (nodes t) 1) k f
  unfolding records_from sum_from
  records_length zero f = refl
  records_length (suc k) f =
      length-append (calls_from t f (nodes t) 1) (records_from t k (suc f))
      ∙ ap₂ (λ a b. a + b) (calls_length f (nodes t) 1) (records_length k (suc f))

  module _ (ok : Taken t) where
    abbrev L : Test
    L = listed t

    length_listed : length (records_of t) ≡ count L (nodes t) 1
    unfolding records_of count
    length_listed =
        records_length (functions t) 1
        ∙ sum_swap (λ g i. one (L i && eqb (callee_of t i) g)) (functions t) 1 (nodes t) 1
        ∙ sum_same (λ x. sum_from (λ g. one (L x && eqb (callee_of t x) g)) (functions t) 1) (λ x. one (L x)) (nodes t) 1
        (λ x a b. sum_one (L x) (callee_of t x) (functions t) 1
        (λ e. let c = listed_called t ok x e in (c.0, omega (arith, c.1))))

    count_le : (s : Test) (k n : ℕ) → count s k n ≤ k
    unfolding count sum_from
    count_le s zero n = omega arith
    count_le s (suc k) n = go (s n) (count_le s k (suc n))
      where
        go : (b : Bool) → sum_from (λ i. one (s i)) k (suc n) ≤ k → one b + sum_from (λ i. one (s i)) k (suc n) ≤ suc k
        go true l = omega (arith, l)
        go false l = omega (arith, l)

    -- there are no more records than nodes
    pub few_records : length (records_of t) ≤ nodes t
    few_records = subst (λ k. k ≤ nodes t) (sym length_listed) (count_le L (nodes t) 1)

    -- the total
    pub total_records : bits_set (tags_of t) ≡ length (records_of t)
    unfolding tags_of count
    total_records =
        bits_of s (tag_length t) 1 ∙ ap (λ k. sum_from (λ i. one (s i)) k 1) (sum (8 * tag_length t) (nodes t) enough)
        ∙ sum_split (λ i. one (s i)) (nodes t) (8 * tag_length t - nodes t) 1
        ∙ ap₂ (λ a b. a + b)
        (sum_same (λ i. one (s i)) (λ i. one (L i)) (nodes t) 1 (λ i a b. ap (λ p. one (p && L i)) (le-leb i (nodes t) (omega
        (arith, b)))))
        (sum_same (λ i. one (s i)) (λ i. 0) (8 * tag_length t - nodes t) (1 + nodes t)
        (λ i a b. ap (λ p. one (p && L i)) (lt-leb i (nodes t) (omega (arith, a)))) ∙ sum_zero (8 * tag_length t - nodes t) (1 + nodes t))
        ∙ plus_zero (sum_from (λ i. one (L i)) (nodes t) 1) ∙ sym length_listed
      where
        s : Test
        s n = leb n (nodes t) && listed t n

        enough : nodes t ≤ 8 * tag_length t
        enough = unfold tag_length in omega arith

        sum : (k n : ℕ) → n ≤ k → k ≡ n + (k - n)
        sum k n l = omega arith

        plus_zero : (a : ℕ) → a + 0 ≡ a
        plus_zero a = omega arith

    -- so it is what `total` answers on the tag bytes
    pub total_whole : bits_set (tags_of t) % 2 ^ 64 ≡ length (records_of t)
    total_whole = ap (λ k. k % 2 ^ 64) total_records ∙ mod-eq_of_lt
        (omega (arith, few_records, (passed t (functions t) (nodes t) ok).0.n_high))
