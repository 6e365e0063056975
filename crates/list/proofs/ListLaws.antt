-- the conflicts found once main's body is walked are the list, and its bytes are the tag bytes
use Rattle.std.proofs.Common.{◌≡◌, ℕ, zero, suc, ◌+◌, ◌-◌, ◌*◌, ◌/◌, ◌%◌, ◌^◌, ◌<◌, ◌≤◌, Bool, true, false, ◌&&◌, ◌||◌, eqb, leb, List, []}
use Rattle.std.proofs.Common.{length, get_or, take, replicate, sym, refl, ap, ◌∙◌, subst, ap₂, true≢false, mul_comm, pow-suc, div-one}
use Rattle.std.proofs.Common.{arith, length-take-le, get_or-take, ext_get_or, ne_eqb, le-leb}
use native.Mathlib.Nat.{div-div-eq-div-mul}
use native.Mathlib.Decide.{ℕ_discrete}
use Rattle.std.proofs.lemmas.List.{get_or-replicate}
use Rattle.table.proofs.Tests.{and_no}
use Rattle.table.specs.Bytes.{functions, nodes}
use Rattle.table.specs.Find.{one}
use Rattle.table.specs.Expressions.{body_of}
use Rattle.table.specs.Working.{IsFunction}
use Rattle.table.proofs.Passed.{passed}
use Rattle.list.specs.declared.kept.Kept.{Kept}
use Rattle.list.specs.Arbiters.{Test, reached_in, listed_in}
use Rattle.list.specs.Tags.{tagged, reached, listed, bits_from, bytes_from, tag_length, tags_of, bits_set}
use Rattle.list.specs.Records.{records_of}
use Rattle.table.specs.Working.{Taken}
use Rattle.list.specs.Working.{bit_at, packed, row, Bit, Callee, calls_by, called_in, conflicts_at, Seen, Memo}
use Rattle.list.proofs.BitLaws.{tagged_bit, zeros_at}
use Rattle.list.proofs.WordLaws.{none_packed}
use Rattle.list.proofs.ArbiterFacts.{and_both, any_out}
use Rattle.list.proofs.ParallelLaws.{by_true}
use Rattle.list.proofs.Callees.{main_reached}
use Rattle.list.proofs.TagFacts.{byte_is, bytes_length, listed_call}
use Rattle.list.proofs.Totals.{total_whole}

module _ (t : List ℕ) where
  -- before the first walk
  pub memo_none : Memo t (record {
    conflicts = replicate 8 0;
    calls = replicate 33 (replicate 8 0);
    sites = replicate 33 (replicate 8 0);
    called = replicate 33 0;
  })
  memo_none = record {
    size_calls = refl;
    size_sites = refl;
    size_called = refl;
    sets = λ g m i s b. absurd (s (zeros_at 33 g));
    sited = λ g m i s b e. absurd (s (zeros_at 33 g));
    masks = λ g h i s b. absurd (s (zeros_at 33 g));
    closed = λ g h i s b e. absurd (s (zeros_at 33 g));
    whole = λ g m i s b e. absurd (s (zeros_at 33 g));
    sound = λ m b e. absurd (true≢false (sym e ∙ none_packed 8 m));
    sites = λ h m i b e. absurd (true≢false (sym e ∙ no_row h m i));
  }
    where
      no_row : (h m : ℕ) → Callee h → row (replicate 33 (replicate 8 0)) h m ≡ false
      no_row h m i = ap (λ (x : List ℕ). packed x m) (get_or-replicate 33 h (replicate 8 0) [] (omega (arith, i.1))) ∙ none_packed 8 m

  -- what the walk of main's body asks for
  pub main_there : Taken t → (f : ℕ) → f ≡ functions t → Taken t × IsFunction t f × (reached t f ≡ true)
  main_there ok f e = (
    ok,
    (omega (arith, e, (passed t (functions t) (nodes t) ok).0.f_low), omega (arith, e)),
    ap (reached t) e ∙ main_reached t (functions t) (nodes t) ok,
  )

  -- after main's
  module _ (kept : Kept) (k : Memo t kept) (ok : Taken t) (F : ℕ) (is : F ≡ functions t)
      (main : Seen kept F) where
    -- what main reaches has been walked
    reached_seen : (f : ℕ) → IsFunction t f → reached t f ≡ true → Seen kept f
    unfolding reached reached_in called_in calls_by
    reached_seen f i e = go (ℕ_discrete f F)
      where
        other : (a b : Bool) → a ≡ false → a || b ≡ true → b ≡ true
        other true b p q = absurd (true≢false p)
        other false b p q = q

        inside : (f ≡ F → ⊥) → called_in t (calls_by t F) f ≡ true
        inside d = other (eqb f F) (called_in t (calls_by t F) f) (ne_eqb f F d)
            (subst (λ x. eqb f x || called_in t (calls_by t x) f ≡ true) (sym is) e)

        go : Dec (f ≡ F) → Seen kept f
        go (yes d) = subst (Seen kept) (sym d) main
        go (no d) = k.closed F f (main_there ok F is).1 main
            (i.0, omega (arith, i.1, (passed t (functions t) (nodes t) ok).0.f_high, is, d)) (inside d)

    pub found_list : (m : ℕ) → Bit m → packed kept.conflicts m ≡ listed t m
    unfolding listed listed_in reached conflicts_at calls_by
    found_list m b = by_true (packed kept.conflicts m) (listed t m) (k.sound m b)
        (λ e. let r = any_out (functions t) (λ f. reached t f && conflicts_at t (body_of t f) m) e in
        let p = and_both (reached t r.0) (conflicts_at t (body_of t r.0) m) r.3 in
        k.whole r.0 m (r.1, r.2) (reached_seen r.0 (r.1, r.2) p.0) b p.1)

-- a number of k bits is what its bits are
number_is : (s : Test) (k n x : ℕ) → x < 2 ^ k → ((j : ℕ) → j < k → bit_at x j ≡ s (n + j)) → x ≡ bits_from s k n
unfolding bits_from
number_is s zero n x h f = small x h
  where
    small : (x : ℕ) → x < 1 → x ≡ 0
    small x h = omega arith
number_is s (suc k) n x h f =
    parts x ∙ ap₂ (λ a b. a + 2 * b) low (number_is s k (suc n) (x / 2) (half x (2 ^ k) h (pow-suc 2 k))
    (λ j l. ap (λ y. eqb (y % 2) 1) (sym (halved x j)) ∙ f (suc j) (omega (arith, l)) ∙ ap s (moved n j)))
  where
    parts : (x : ℕ) → x ≡ x % 2 + 2 * (x / 2)
    parts x = omega arith

    bit : (y : ℕ) → y < 2 → y ≡ one (eqb y 1)
    bit zero l = refl
    bit (suc zero) l = refl
    bit (suc (suc y)) l = absurd (omega arith)

    less : (x : ℕ) → x % 2 < 2
    less x = omega arith

    plus_zero : (n : ℕ) → n + 0 ≡ n
    plus_zero n = omega arith

    low : x % 2 ≡ one (s n)
    low = bit (x % 2) (less x) ∙ ap one (ap (λ y. eqb (y % 2) 1) (sym (div-one x)) ∙ f 0 (omega arith) ∙ ap s (plus_zero n))

    half : (x p : ℕ) → x < 2 ^ suc k → 2 ^ suc k ≡ p * 2 → x / 2 < p
    half x p a b = omega arith

    halved : (x j : ℕ) → x / 2 ^ suc j ≡ x / 2 / 2 ^ j
    halved x j = ap (λ y. x / y) (pow-suc 2 j ∙ mul_comm (2 ^ j) 2) ∙ sym (div-div-eq-div-mul x 2 (2 ^ j))

    moved : (n j : ℕ) → n + suc j ≡ suc n + j
    moved n j = omega arith

-- they are among the 64 of a set
pub tags_short : (t : List ℕ) → Taken t → tag_length t ≤ 64
unfolding tag_length
tags_short t ok = omega (arith, (passed t (functions t) (nodes t) ok).0.n_high)

-- the first bytes of the set are the tag bytes
module _ (t : List ℕ) (ok : Taken t) (found : List ℕ) (size : length found ≡ 64)
    (fits : (i : ℕ) → i < tag_length t → get_or found i 0 < 256)
    (is : (m : ℕ) → Bit m → tagged found m ≡ listed t m) where
  s : Test
  s n = leb n (nodes t) && listed t n

  abbrev few_nodes : nodes t ≤ 512
  few_nodes = (passed t (functions t) (nodes t) ok).0.n_high

  short : tag_length t ≤ 64
  short = tags_short t ok

  within : (n : ℕ) → listed t n ≡ s n
  unfolding s
  within n = go (listed t n) refl
    where
      go : (b : Bool) → listed t n ≡ b → listed t n ≡ leb n (nodes t) && listed t n
      go true e = sym (ap (λ p. p && listed t n) (le-leb n (nodes t) (listed_call t (functions t) (nodes t) ok n e).0.1))
      go false e = e ∙ sym (ap (λ p. leb n (nodes t) && p) e ∙ and_no (leb n (nodes t)))

  bits_at : (i j : ℕ) → i < 64 → j < 8 → bit_at (get_or found i 0) j ≡ s (1 + 8 * i + j)
  bits_at i j p q =
      ap₂ (λ a b. bit_at (get_or found a 0) b) (byte i j q) (bit i j q) ∙ sym (tagged_bit found (1 + 8 * i + j) (omega arith))
      ∙ is (1 + 8 * i + j) (omega arith, omega arith) ∙ within (1 + 8 * i + j)
    where
      byte : (i j : ℕ) → j < 8 → i ≡ (1 + 8 * i + j - 1) / 8
      byte i j q = omega arith

      bit : (i j : ℕ) → j < 8 → j ≡ (1 + 8 * i + j - 1) % 8
      bit i j q = omega arith

  pub tags_are : take (tag_length t) found ≡ tags_of t
  unfolding tags_of s
  tags_are =
      ext_get_or 0 (take (tag_length t) found) (bytes_from s (tag_length t) 1) (cut ∙ sym (bytes_length s (tag_length t) 1))
      (λ i h. let l : i < tag_length t = omega (arith, h, cut) in
      get_or-take (tag_length t) found i 0 l
      ∙ number_is s 8 (1 + 8 * i) (get_or found i 0) (fits i l) (λ j q. bits_at i j (omega (arith, l, short)) q)
      ∙ sym (byte_is s (tag_length t) 1 i l))
    where
      cut : length (take (tag_length t) found) ≡ tag_length t
      cut = length-take-le (tag_length t) found (omega (arith, size, short))

  -- the number of bits set in them is the number of records
  pub total_set : (k : ℕ) → k ≡ nodes t → bits_set (take ((k + 7) / 8) found) % 2 ^ 64 ≡ length (records_of t)
  unfolding tag_length
  total_set k e = ap (λ n. bits_set (take ((n + 7) / 8) found) % 2 ^ 64) e ∙ ap (λ l. bits_set l % 2 ^ 64) tags_are ∙ total_whole t ok
