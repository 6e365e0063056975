-- sets added one after the other, and the sites of the functions that a mask names, function by function
use Rattle.std.proofs.Common.{◌≡◌, ℕ, zero, suc, ◌+◌, ◌-◌, ◌/◌, ◌%◌, ◌^◌, ◌<◌, ◌≤◌, Bool, true, false, ◌&&◌, ◌||◌, List, length}
use Rattle.std.proofs.Common.{get_or, replicate, sym, refl, ap, ◌∙◌, ap₂, arith, eq-eqb, ne_eqb}
use lib.Bits.{bit_or, bit_and}
use Rattle.table.proofs.Tests.{and_no}
use Rattle.list.specs.Arbiters.{Test, any_up_to}
use Rattle.list.specs.declared.kept.Kept.{Kept}
use Rattle.list.specs.Working.{bit_at, packed, row, Bit, Adds, union_of, shared_of, MetBy}
use Rattle.list.proofs.BitLaws.{low_bit, or_bit, and_bit, small_bit}
use Rattle.list.proofs.WordLaws.{none_packed, packed_bit, by_words, word_of}
use Rattle.list.proofs.Entrywise.{Upto}

pub or_no : (p : Bool) → p || false ≡ p
or_no true = refl
or_no false = refl

pub or_swap : (a b : Bool) → a || b ≡ b || a
or_swap true true = refl
or_swap true false = refl
or_swap false true = refl
or_swap false false = refl

-- nothing added
pub adds_none : (s : Test) (x : List ℕ) → length x ≡ 8 → ((m : ℕ) → Bit m → s m ≡ false) → Adds s x x
adds_none s x l h = record { size = l; bits = λ m b. sym (or_no (packed x m)) ∙ ap (λ p. packed x m || p) (sym (h m b)) }

-- one addition after the other
pub adds_two : (s s' s'' : Test) (x y z : List ℕ) → Adds s x y → Adds s' y z → ((m : ℕ) → Bit m → s'' m ≡ s m || s' m) → Adds s'' x z
adds_two s s' s'' x y z p q h = record {
  size = q.size;
  bits = λ m b. q.bits m b ∙ ap (λ a. a || s' m) (p.bits m b) ∙ assoc (packed x m) (s m) (s' m) ∙ ap (λ a. packed x m || a) (sym (h m b));
}
  where
    assoc : (a b c : Bool) → (a || b) || c ≡ a || (b || c)
    assoc true b c = refl
    assoc false b c = refl

pub adds_same : (s s' : Test) (x y : List ℕ) → Adds s x y → ((m : ℕ) → Bit m → s' m ≡ s m) → Adds s' x y
adds_same s s' x y p h = record { size = p.size; bits = λ m b. p.bits m b ∙ ap (λ a. packed x m || a) (sym (h m b)) }

pub none_of : (k : ℕ) (p : Test) → ((h : ℕ) → 1 ≤ h → p h ≡ false) → any_up_to k p ≡ false
unfolding any_up_to
none_of zero p f = refl
none_of (suc k) p f = ap₂ (λ a b. a || b) (f (suc k) (omega arith)) (none_of k p f)

-- the sites of the functions that a mask names, function by function: those below h are united
module _ (sites : List (List ℕ)) (mask : ℕ) where
  abbrev pub United : (h : ℕ) (all : List ℕ) → Type 0
  United h all = (m : ℕ) → Bit m → packed all m ≡ union_of sites mask (h - 1) m

  union_next : (h m : ℕ) → 1 ≤ h → union_of sites mask (h + 1 - 1) m ≡ (bit_at mask h && row sites h m) || union_of sites mask (h - 1) m
  unfolding union_of any_up_to
  union_next zero m l = absurd (omega arith)
  union_next (suc h) m l =
      ap (λ k. any_up_to k (λ h. bit_at mask h && row sites h m)) (up h)
      ∙ ap (λ k. (bit_at mask (suc h) && row sites (suc h) m) || any_up_to k (λ h. bit_at mask h && row sites h m)) (back h)
    where
      up : (h : ℕ) → suc h + 1 - 1 ≡ suc h
      up h = omega arith

      back : (h : ℕ) → h ≡ suc h - 1
      back h = omega arith

  pub united_none : United 1 (replicate 8 0)
  unfolding union_of any_up_to
  united_none m b = none_packed 8 m

  module _ (h : ℕ) (all : List ℕ) (low : 1 ≤ h) (u : United h all) where
    -- a function that is named, and one that is not
    pub united_more : (all' : List ℕ) → bit_and (mask / 2 ^ h) 1 ≡ 1 → Adds (row sites h) all all' → United (h + 1) all'
    united_more all' e a m b =
        a.bits m b ∙ ap (λ p. p || row sites h m) (u m b) ∙ or_swap (union_of sites mask (h - 1) m) (row sites h m)
        ∙ sym (union_next h m low ∙ ap (λ p. (p && row sites h m) || union_of sites mask (h - 1) m)
        (eq-eqb (mask / 2 ^ h % 2) 1 (sym (low_bit (mask / 2 ^ h)) ∙ e)))

    pub united_skip : (bit_and (mask / 2 ^ h) 1 ≡ 1 → ⊥) → United (h + 1) all
    united_skip d m b =
        u m b ∙ sym (union_next h m low ∙ ap (λ p. (p && row sites h m) || union_of sites mask (h - 1) m)
        (ne_eqb (mask / 2 ^ h % 2) 1 (λ q. d (low_bit (mask / 2 ^ h) ∙ q))))

-- where no function is called twice
pub met_none : (set : List ℕ) (kept : Kept) (once twice : ℕ) → twice < 2 → (once ≡ twice → ⊥) → MetBy set once twice kept kept
met_none set kept once twice e z = record {
  bits = λ m b. sym
      (ap (λ p. packed kept.conflicts m || p) (ap (λ p. packed set m && p) (none m) ∙ and_no (packed set m))
      ∙ or_no (packed kept.conflicts m));
  others = refl;
}
  where
    none : (m : ℕ) → shared_of set kept.sites once twice m ≡ false
    none = unfold shared_of union_of in (λ m. rw (ne_eqb once twice z) (none_of 31 (λ h. bit_at twice h && row kept.sites h m)
        (λ h i. ap (λ p. p && row kept.sites h m) (small_bit twice h e i))))

-- where all are, and where only some are
module _ (set : List ℕ) (sites : List (List ℕ)) (once twice m : ℕ) where
  pub shared_all : once ≡ twice → packed set m ≡ shared_of set sites once twice m
  unfolding shared_of
  shared_all e = rw (eq-eqb once twice e)

  pub shared_some : (once ≡ twice → ⊥) → union_of sites twice 31 m ≡ shared_of set sites once twice m
  unfolding shared_of
  shared_some e = rw (ne_eqb once twice e)

-- the words of the conflicts written one after the other
pub met_bits : (set all x x' : List ℕ) (s : Test)
    → Upto (λ j. bit_or (get_or x j 0) (bit_and (get_or set j 0) (get_or all j 0))) x x' 8
    → ((m : ℕ) → Bit m → packed all m ≡ s m) → (m : ℕ) → Bit m → packed x' m ≡ packed x m || (packed set m && s m)
met_bits set all x x' s u e m b =
    by_words x' (λ j. bit_or (get_or x j 0) (bit_and (get_or set j 0) (get_or all j 0))) 8 u.done m (word_of m b)
    ∙ or_bit (get_or x ((m - 1) / 64) 0) (bit_and (get_or set ((m - 1) / 64) 0) (get_or all ((m - 1) / 64) 0)) ((m - 1) % 64)
    ∙ ap₂ (λ p q. p || q) (sym (packed_bit x m)) (and_bit (get_or set ((m - 1) / 64) 0) (get_or all ((m - 1) / 64) 0) ((m - 1) % 64)
    ∙ ap₂ (λ p q. p && q) (sym (packed_bit set m)) (sym (packed_bit all m) ∙ e m b))
