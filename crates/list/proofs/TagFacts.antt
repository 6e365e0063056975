-- the tag bytes of the arbiter list mark exactly the list, hold it, and are taken; 10 takes tags in order and no others
use Rattle.std.proofs.Common.{◌≡◌, ℕ, zero, suc, ◌+◌, ◌-◌, ◌*◌, ◌/◌, ◌%◌, ◌^◌, ◌<◌, ◌≤◌, Bool, true, false, not, ◌&&◌, ◌||◌, T, eqb, leb}
use Rattle.std.proofs.Common.{◌↔◌, List, length, get_or, sym, refl, ap, ◌∙◌, subst, true≢false, add-suc, mul_comm, suc-add, pow-suc}
use Rattle.std.proofs.Common.{div-one, arith, le→leb, eqb→eq}
use native.Mathlib.Decide.{dec_le}
use native.Mathlib.Nat.{div-div-eq-div-mul}
use lib.Arith.{lt→nleb}
use lib.ListN.{get_or-eq_default}
use Rattle.table.specs.Pick.{pick, Range}
use Rattle.table.proofs.Tests.{T_true, true_t}
use Rattle.list.specs.Arbiters.{Test}
use Rattle.table.specs.Bytes.{functions, nodes, word}
use Rattle.table.specs.Find.{one, lowest}
use Rattle.table.specs.Check.{accepted, check_of}
use Rattle.table.proofs.FindLaws.{both, pair, same, passes_all, passes_lowest, all_passes, lowest_passes}
use Rattle.table.proofs.Passed.{passes, goes_on}
use Rattle.list.proofs.BitLaws.{tagged_bit, zero_bit}
use Rattle.list.proofs.Callees.{calls_there, call_below, reached_in_lem, listed_stands}
use Rattle.list.specs.Tags.{Holding, tagged, is_call, callee_of, listed, bits_from, bytes_from, tag_length, tags_of, none_past, tag_fits}
use Rattle.list.specs.Tags.{tags_refusal, after, check_with, InOrder}
use Rattle.list.specs.Working.{bit_at}

pub half_of : (b : Bool) (y : ℕ) → (one b + 2 * y) / 2 ≡ y
half_of true y = omega arith
half_of false y = omega arith

pub low_of : (b : Bool) (y : ℕ) → (one b + 2 * y) % 2 ≡ one b
low_of true y = omega arith
low_of false y = omega arith

-- bit j of k bits from n on is that of n + j
pub bit_is : (s : Test) (k n j : ℕ) → j < k → bits_from s k n / 2 ^ j % 2 ≡ one (s (n + j))
unfolding bits_from
bit_is s zero n j h = absurd (omega arith)
bit_is s (suc k) n zero h =
    ap (λ x. x % 2) (div-one (one (s n) + 2 * bits_from s k (suc n))) ∙ low_of (s n) (bits_from s k (suc n))
    ∙ ap (λ m. one (s m)) (plus_zero n)
  where
    plus_zero : (n : ℕ) → n ≡ n + 0
    plus_zero n = omega arith
bit_is s (suc k) n (suc j) h =
    ap (λ x. x % 2) (halved (one (s n) + 2 * bits_from s k (suc n)) j ∙ ap (λ x. x / 2 ^ j) (half_of (s n) (bits_from s k (suc n))))
    ∙ bit_is s k (suc n) j (omega arith) ∙ ap (λ m. one (s m)) (suc-add n j ∙ sym (add-suc n j))
  where
    halved : (x j : ℕ) → x / 2 ^ suc j ≡ x / 2 / 2 ^ j
    halved x j = ap (λ y. x / y) (pow-suc 2 j ∙ mul_comm (2 ^ j) 2) ∙ sym (div-div-eq-div-mul x 2 (2 ^ j))

pub byte_is : (s : Test) (k n i : ℕ) → i < k → get_or (bytes_from s k n) i 0 ≡ bits_from s 8 (n + 8 * i)
unfolding bytes_from
byte_is s zero n i h = absurd (omega arith)
byte_is s (suc k) n zero h = ap (bits_from s 8) (plus_zero n)
  where
    plus_zero : (n : ℕ) → n ≡ n + 8 * 0
    plus_zero n = omega arith
byte_is s (suc k) n (suc i) h = byte_is s k (n + 8) i (omega arith) ∙ ap (bits_from s 8) (plus_eight n i)
  where
    plus_eight : (n i : ℕ) → n + 8 + 8 * i ≡ n + 8 * suc i
    plus_eight n i = omega arith

pub bytes_length : (s : Test) (k n : ℕ) → length (bytes_from s k n) ≡ k
unfolding bytes_from
bytes_length s zero n = refl
bytes_length s (suc k) n = ap suc (bytes_length s k (n + 8))

one_is : (b : Bool) → eqb (one b) 1 ≡ b
one_is true = refl
one_is false = refl

-- the bytes of a set mark exactly the set
pub tagged_is : (s : Test) (k m : ℕ) → 1 ≤ m → m ≤ 8 * k → tagged (bytes_from s k 1) m ≡ s m
tagged_is s k m a b =
    tagged_bit (bytes_from s k 1) m a
    ∙ ap (λ x. eqb (x / 2 ^ ((m - 1) % 8) % 2) 1) (byte_is s k 1 ((m - 1) / 8) (byte_in m k a b))
    ∙ ap (λ x. eqb x 1) (bit_is s 8 (1 + 8 * ((m - 1) / 8)) ((m - 1) % 8) (bit_in m))
    ∙ one_is (s (1 + 8 * ((m - 1) / 8) + (m - 1) % 8)) ∙ ap s (whole m a)
  where
    byte_in : (m k : ℕ) → 1 ≤ m → m ≤ 8 * k → (m - 1) / 8 < k
    byte_in m k a b = omega arith

    bit_in : (m : ℕ) → (m - 1) % 8 < 8
    bit_in m = omega arith

    whole : (m : ℕ) → 1 ≤ m → 1 + 8 * ((m - 1) / 8) + (m - 1) % 8 ≡ m
    whole m a = omega arith

unset : (b : Bool) → T (not b) → b ≡ false
unset true h = absurd h
unset false h = refl

-- past the end of a list nothing is tagged
past_end : (tags : List ℕ) (n : ℕ) → 8 * length tags < n → tagged tags n ≡ false
past_end tags n l = tagged_bit tags n (omega arith)
    ∙ ap (λ x. bit_at x ((n - 1) % 8)) (get_or-eq_default tags 0 (omega (arith, l))) ∙ zero_bit ((n - 1) % 8)

module _ (t : List ℕ) (F N : ℕ) (check : check_of t ≡ accepted F N) where
  -- what is listed is a call of the table
  pub listed_call : (n : ℕ) → listed t n ≡ true → Range (nodes t) n × (is_call t n ≡ true)
  unfolding callee_of
  listed_call n e =
      let x = listed_stands t F N check n e in
      let o = reached_in_lem t F N check x.0 x.2 in
      let b = call_below t F N check x.0 n x.1 o x.3 in
      (calls_there t F N check x.0 o n x.1 x.3, is_call_lem (is_call t n) (word t n) x.1 b.0 b.1)
    where
      is_call_lem : (b : Bool) (w g : ℕ) → pick b w 0 ≡ g → 1 ≤ g → b ≡ true
      is_call_lem true w g p h = refl
      is_call_lem false w g p h = absurd (omega arith)

  tag_in : (n : ℕ) → n ≤ nodes t → n ≤ 8 * tag_length t
  unfolding tag_length
  tag_in n b = omega arith

  masked : (n : ℕ) → 1 ≤ n → n ≤ 8 * tag_length t → tagged (tags_of t) n ≡ leb n (nodes t) && listed t n
  unfolding tags_of
  masked n a b = tagged_is (λ n. leb n (nodes t) && listed t n) (tag_length t) n a b

  -- the tag bytes mark the list, and nothing else of the nodes
  pub tags_mark : (n : ℕ) → 1 ≤ n → n ≤ nodes t → tagged (tags_of t) n ≡ listed t n
  tags_mark n a b = masked n a (tag_in n b) ∙ ap (λ x. x && listed t n) (T_true (leb n (nodes t)) (le→leb n (nodes t) b))

  pub tags_hold : Holding t (tags_of t)
  tags_hold n r e = tags_mark n r.0 r.1 ∙ e

  pub tags_length : length (tags_of t) ≡ tag_length t
  unfolding tags_of
  tags_length = bytes_length (λ n. leb n (nodes t) && listed t n) (tag_length t) 1

  -- 10 takes the tags that are in order, and no others
  module _ (tags : List ℕ) where
    abbrev ordered : Bool
    ordered = eqb (length tags) (tag_length t) && none_past t tags

    order_goes : InOrder t tags → check_with t tags ≡ accepted (functions t) (nodes t)
    unfolding check_with after tags_refusal none_past tag_fits
    order_goes o = ap (λ c. after c (λ _. tags_refusal t tags)) check ∙ goes_on 10 ordered (lowest (tag_fits t tags) (nodes t)) _
        (pair (eqb (length tags) (tag_length t)) (none_past t tags) (same (length tags) (tag_length t) o.size)
        (passes_all (λ i. not (tagged tags (nodes t + i))) (8 * length tags - nodes t)
        (λ i a b. subst (λ x. T (not x)) (sym (o.past (nodes t + i) (omega arith))) tt)))
        (passes_lowest (tag_fits t tags) (nodes t) (λ n a b. fits (tagged tags n) (is_call t n) (o.calls n (a, b))))
      where
        fits : (b c : Bool) → (b ≡ true → c ≡ true) → T (not b || c)
        fits true c f = true_t c (f refl)
        fits false c f = tt

    pub goes_order : (F' N' : ℕ) → check_with t tags ≡ accepted F' N' → InOrder t tags
    unfolding check_with after tags_refusal none_past tag_fits
    goes_order F' N' e = record {
      size = eqb→eq (length tags) (tag_length t) parts.0;
      past = λ n l. past n l (dec_le n (8 * length tags));
      calls = λ n r g. fits (tagged tags n) (is_call t n) (lowest_passes (tag_fits t tags) (nodes t) goes.1 n r.0 r.1) g;
    }
      where
        goes : T ordered × (lowest (tag_fits t tags) (nodes t) ≡ 0) × (accepted (functions t) (nodes t) ≡ accepted F' N')
        goes = passes 10 ordered (lowest (tag_fits t tags) (nodes t)) _ F' N' (sym (ap (λ c. after c (λ _. tags_refusal t tags)) check) ∙ e)

        parts : T (eqb (length tags) (tag_length t)) × T (none_past t tags)
        parts = both (eqb (length tags) (tag_length t)) (none_past t tags) goes.0

        past : (n : ℕ) → nodes t < n → Dec (n ≤ 8 * length tags) → tagged tags n ≡ false
        past n l (no d) = past_end tags n (omega (arith, d))
        past n l (yes d) = unset (tagged tags n) (subst (λ m. T (not (tagged tags m))) (omega (arith, l))
            (all_passes (λ i. not (tagged tags (nodes t + i))) (8 * length tags - nodes t) parts.1 (n - nodes t)
            (omega (arith, l)) (omega (arith, d))))

        fits : (b c : Bool) → T (not b || c) → b ≡ true → c ≡ true
        fits true c h g = T_true c h
        fits false c h g = absurd (true≢false (sym g))

    pub order_taken : (check_with t tags ≡ accepted (functions t) (nodes t)) ↔ InOrder t tags
    order_taken = (goes_order (functions t) (nodes t), order_goes)

  -- the table's own tags are in order
  own_order : InOrder t (tags_of t)
  own_order = record {
    size = tags_length;
    past = λ n l. past n l (dec_le n (8 * tag_length t));
    calls = λ n r e. (listed_call n (sym (tags_mark n r.0 r.1) ∙ e)).1;
  }
    where
      past : (n : ℕ) → nodes t < n → Dec (n ≤ 8 * tag_length t) → tagged (tags_of t) n ≡ false
      past n l (yes d) = masked n (omega (arith, l)) d ∙ ap (λ b. b && listed t n) (unset (leb n (nodes t)) (lt→nleb n (nodes t) l))
      past n l (no d) = past_end (tags_of t) n (omega (arith, d, tags_length))

  pub tags_taken : check_with t (tags_of t) ≡ accepted (functions t) (nodes t)
  tags_taken = (order_taken (tags_of t)).1 own_order
