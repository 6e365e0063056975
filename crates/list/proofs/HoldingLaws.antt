-- 26: which listed call has no tag, found byte by byte; where there is none the tags hold the list
use Rattle.std.proofs.Common.{◌≡◌, ℕ, ◌+◌, ◌-◌, ◌*◌, ◌/◌, ◌%◌, ◌<◌, ◌≤◌, Bool, true, false, not, ◌||◌, T, ◌↔◌, List, length, get_or, sym}
use Rattle.std.proofs.Common.{refl, ap, ◌∙◌, subst, ap₂, true≢false, arith}
use native.Mathlib.Decide.{dec_le}
use lib.Bits.{bit_or}
use Rattle.table.specs.Bytes.{functions, nodes}
use Rattle.table.specs.Find.{lowest}
use Rattle.table.specs.Check.{accepted, refused, if_accepted}
use Rattle.table.specs.Working.{Taken}
use Rattle.table.proofs.Tests.{T_true, true_t, or_yes}
use Rattle.table.proofs.FindLaws.{passes_lowest, lowest_passes}
use Rattle.table.proofs.Loops.{lowest_found}
use Rattle.table.proofs.LowestLaws.{Lowest, lowest_fails, lowest_same, lowest_past}
use Rattle.list.specs.Arbiters.{Test}
use Rattle.list.specs.Tags.{Holding, Lacks, tagged, listed, tag_length, check_with, holds_at, missing, missing_with}
use Rattle.list.specs.Working.{bit_at, Bit}
use Rattle.list.proofs.BitLaws.{or_bit, tagged_bit}
use Rattle.list.proofs.NodeLaws.{few}
use Rattle.list.proofs.TagFacts.{listed_call, goes_order}

-- a number of a set, by its tag
module _ (s : Test) (tags : List ℕ) (n : ℕ) where
  pub holds_other : s n ≡ false → holds_at s tags n ≡ true
  unfolding holds_at
  holds_other e = ap (λ b. not b || tagged tags n) e

  pub holds_tagged : tagged tags n ≡ true → holds_at s tags n ≡ true
  unfolding holds_at
  holds_tagged e = ap (λ b. not (s n) || b) e ∙ or_yes (not (s n))

  pub holds_not : s n ≡ true → tagged tags n ≡ false → holds_at s tags n ≡ false
  unfolding holds_at
  holds_not a b = ap₂ (λ x y. not x || y) a b

  pub holds_by : T (holds_at s tags n) → s n ≡ true → tagged tags n ≡ true
  unfolding holds_at
  holds_by h e = T_true (tagged tags n) (subst (λ b. T (not b || tagged tags n)) e h)

  pub holds_if : (s n ≡ true → tagged tags n ≡ true) → T (holds_at s tags n)
  unfolding holds_at
  holds_if f = go (s n) f
    where
      go : (x : Bool) → (x ≡ true → tagged tags n ≡ true) → T (not x || tagged tags n)
      go true f = true_t (tagged tags n) (f refl)
      go false f = tt

  pub holds_fails : holds_at s tags n ≡ false → (s n ≡ true) × (tagged tags n ≡ false)
  unfolding holds_at
  holds_fails e = go (s n) (tagged tags n) e
    where
      go : (x y : Bool) → (not x || y) ≡ false → (x ≡ true) × (y ≡ false)
      go true y e = (refl, e)
      go false y e = absurd (true≢false e)

-- a byte of the set that the tags cover: eight numbers more that have one
pub covered_more : (set tags : List ℕ) (i : ℕ) → lowest (holds_at (tagged set) tags) (8 * i) ≡ 0
    → bit_or (get_or set i 0) (get_or tags i 0) ≡ get_or tags i 0 → lowest (holds_at (tagged set) tags) (8 * (i + 1)) ≡ 0
unfolding holds_at
covered_more set tags i h e = passes_lowest (holds_at (tagged set) tags) (8 * (i + 1)) (λ n a b. go n a b (dec_le n (8 * i)))
  where
    inside : (a b : Bool) → b ≡ a || b → T (not a || b)
    inside true b q = true_t b q
    inside false b q = tt

    go : (n : ℕ) → 1 ≤ n → n ≤ 8 * (i + 1) → Dec (n ≤ 8 * i) → T (not (tagged set n) || tagged tags n)
    go n a b (yes d) = lowest_passes (holds_at (tagged set) tags) (8 * i) h n a d
    go n a b (no d) =
        let at : (n - 1) / 8 ≡ i = omega (arith, d, b) in
        let own : (l : List ℕ) → tagged l n ≡ bit_at (get_or l i 0) ((n - 1) % 8) =
        λ l. tagged_bit l n a ∙ ap (λ j. bit_at (get_or l j 0) ((n - 1) % 8)) at in
        inside (tagged set n) (tagged tags n) (own tags ∙ ap (λ x. bit_at x ((n - 1) % 8)) (sym e)
        ∙ or_bit (get_or set i 0) (get_or tags i 0) ((n - 1) % 8) ∙ ap₂ ◌||◌ (sym (own set)) (sym (own tags)))

-- tags lack nothing exactly if they hold the list
pub none_missing : (t tags : List ℕ) → (missing t tags ≡ 0) ↔ Holding t tags
unfolding missing
none_missing t tags = (
  λ z n r. holds_by (listed t) tags n (lowest_passes (holds_at (listed t) tags) (nodes t) z n r.0 r.1),
  λ h. passes_lowest (holds_at (listed t) tags) (nodes t) (λ n a b. holds_if (listed t) tags n (h n (a, b))),
)

-- what they lack first is the lowest listed call without a tag
pub missing_exactly : (t tags : List ℕ) (n : ℕ) → 1 ≤ n → (missing t tags ≡ n) ↔ Lacks t tags n
unfolding missing
missing_exactly t tags n low = (into, from)
  where
    p : Test
    p = holds_at (listed t) tags

    into : lowest p (nodes t) ≡ n → Lacks t tags n
    into e =
        let l = subst (Lowest p (nodes t)) e (lowest_fails p (nodes t) (λ z. omega (arith, z, e, low))) in
        let f = holds_fails (listed t) tags n l.fails in
        record { there = l.there; is_listed = f.0; untagged = f.1; below = λ m a b. holds_by (listed t) tags m (l.below m a b) }

    back : (n : ℕ) → 1 ≤ n → n - 1 + 1 ≡ n
    back n h = omega arith

    from : Lacks t tags n → lowest p (nodes t) ≡ n
    from h =
        lowest_found p (n - 1) (nodes t)
        (passes_lowest p (n - 1) (λ m a b. holds_if (listed t) tags m (h.below m a (omega (arith, b, low)))))
        (ap p (back n low) ∙ holds_not (listed t) tags n h.is_listed h.untagged) (omega (arith, h.there.1, low))
        ∙ back n low

-- a set with the bits of the list, and tags that are taken
module _ (t : List ℕ) (ok : Taken t) (tags : List ℕ) (F N : ℕ) (fit : check_with t tags ≡ accepted F N) where
  size : length tags ≡ tag_length t
  size = (goes_order t (functions t) (nodes t) ok tags F N fit).size

  pub tags_short : length tags ≤ 64
  unfolding tag_length
  tags_short = omega (arith, size, (few t ok).1)

  pub missing_found : (set : List ℕ) → ((m : ℕ) → Bit m → tagged set m ≡ listed t m)
      → lowest (holds_at (tagged set) tags) (8 * length tags) ≡ missing t tags
  unfolding missing holds_at tag_length
  missing_found set is =
      lowest_same (holds_at (tagged set) tags) (holds_at (listed t) tags) (8 * length tags)
      (λ n r. ap (λ b. not b || tagged tags n) (is n (r.0, omega (arith, r.1, tags_short))))
      ∙ ap (lowest (holds_at (listed t) tags)) (far (length tags) (nodes t) size)
      ∙ lowest_past (holds_at (listed t) tags) (nodes t) (8 * length tags - nodes t) (λ n a b. past n a (listed t n) refl)
    where
      far : (l n : ℕ) → l ≡ (n + 7) / 8 → 8 * l ≡ 8 * l - n + n
      far l n e = omega arith

      past : (n : ℕ) → nodes t < n → (b : Bool) → listed t n ≡ b → holds_at (listed t) tags n ≡ true
      past n a true e = absurd (omega (arith, a, (listed_call t (functions t) (nodes t) ok n e).0.1))
      past n a false e = holds_other (listed t) tags n e

-- what is told of it beside the check of table and tags
pub missing_told : (t tags : List ℕ) (F N : ℕ) → check_with t tags ≡ accepted F N → missing t tags ≡ missing_with t tags
unfolding missing_with
missing_told t tags F N e = sym (ap (λ v. if_accepted v (missing t tags) 0) e)

pub missing_refused : (t tags : List ℕ) (number place : ℕ) → check_with t tags ≡ refused number place → 0 ≡ missing_with t tags
unfolding missing_with
missing_refused t tags number place e = sym (ap (λ v. if_accepted v (missing t tags) 0) e)
