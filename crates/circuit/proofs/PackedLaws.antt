-- packed sets written word by word or in one bit, and the lowest number that is in one
use Rattle.std.proofs.Common.{◌≡◌, ℕ, zero, suc, ◌+◌, ◌-◌, ◌*◌, ◌/◌, ◌%◌, ◌^◌, ◌<◌, ◌≤◌, Bool, true, false, not, ◌&&◌, ◌||◌, eqb, List}
use Rattle.std.proofs.Common.{length, get_or, set, sym, refl, ap, ◌∙◌, ap₂, subst, pow-suc, arith, length-set, get_or-set_other}
use Rattle.std.proofs.Common.{get_or-set_same}
use Rattle.std.proofs.Common.{shr-shr, eq-eqb, ne_eqb}
use mathlib.Core.Bool.{xor}
use native.Mathlib.Decide.{ℕ_discrete, dec_lt}
use lib.Bits.{differ, bit_and, bit_or, bit_xor, xor_shr, xor_step}
use lib.Count.{under, count_trailing_zeros}
use Rattle.table.specs.Pick.{pick}
use Rattle.table.specs.Find.{lowest}
use Rattle.table.proofs.FindLaws.{passes_lowest}
use Rattle.table.proofs.Loops.{lowest_found}
use Rattle.list.specs.Arbiters.{Test}
use Rattle.list.specs.Working.{bit_at, packed, Bit}
use Rattle.list.proofs.BitLaws.{or_bit, and_bit, zero_bit, pow_bit}
use Rattle.list.proofs.WordLaws.{packed_bit, by_words, word_of}
use Rattle.rules.specs.Sets.{ready}
use Rattle.circuit.specs.Packed.{Packs, sets_as, LowBit}

-- the bits of `^`
last : (z a : ℕ) → a < 2 → (z * 2 + a) % 2 ≡ a
last z a h = omega arith

last_bit : (z a b : ℕ) → a < 2 → b < 2 → eqb ((z * 2 + differ a b) % 2) 1 ≡ xor (eqb a 1) (eqb b 1)
unfolding xor
last_bit z zero zero p q = ap (λ x. eqb x 1) (last z 0 (omega arith))
last_bit z zero (suc zero) p q = ap (λ x. eqb x 1) (last z 1 (omega arith))
last_bit z (suc zero) zero p q = ap (λ x. eqb x 1) (last z 1 (omega arith))
last_bit z (suc zero) (suc zero) p q = ap (λ x. eqb x 1) (last z 0 (omega arith))
last_bit z zero (suc (suc b)) p q = absurd (omega arith)
last_bit z (suc zero) (suc (suc b)) p q = absurd (omega arith)
last_bit z (suc (suc a)) b p q = absurd (omega arith)

xor_bit : (x y k : ℕ) → bit_at (bit_xor x y) k ≡ xor (bit_at x k) (bit_at y k)
xor_bit x y k =
    ap (λ z. eqb (z % 2) 1) (xor_shr x y k ∙ xor_step (x / 2 ^ k) (y / 2 ^ k))
    ∙ last_bit (bit_xor (x / 2 ^ k / 2) (y / 2 ^ k / 2)) (x / 2 ^ k % 2) (y / 2 ^ k % 2) (omega arith) (omega arith)

-- `x ^ (x & y)`
pub without_bit : (x y k : ℕ) → bit_at (bit_xor x (bit_and x y)) k ≡ bit_at x k && not (bit_at y k)
unfolding xor
without_bit x y k = xor_bit x (bit_and x y) k ∙ ap (xor (bit_at x k)) (and_bit x y k) ∙ go (bit_at x k) (bit_at y k)
  where
    go : (a b : Bool) → xor a (a && b) ≡ a && not b
    go true true = refl
    go true false = refl
    go false b = refl

-- the k words of a set from word i on are what f says, one by one
abbrev pub Words : (f : ℕ → ℕ) → List ℕ → (i k : ℕ) → Type 0
Words f x i zero = Unit {0}
Words f x i (suc k) = (get_or x i 0 ≡ f i) × Words f x (suc i) k

word_at : (f : ℕ → ℕ) (x : List ℕ) (i k : ℕ) → Words f x i k → (j : ℕ) → i ≤ j → j < i + k → get_or x j 0 ≡ f j
word_at f x i zero w j l h = absurd (omega arith)
word_at f x i (suc k) w j l h = go (ℕ_discrete j i) (λ l h. word_at f x (suc i) k w.1 j l h)
  where
    go : Dec (j ≡ i) → (suc i ≤ j → j < suc i + k → get_or x j 0 ≡ f j) → get_or x j 0 ≡ f j
    go (yes e) r = subst (λ m. get_or x m 0 ≡ f m) (sym e) w.0
    go (no e) r = r (omega arith) (omega arith)

-- its members are what the words' bits say
pub packs_by : (f : ℕ → ℕ) (s : Test) (x : List ℕ) → length x ≡ 8 → Words f x 0 8
    → ((m : ℕ) → Bit m → bit_at (f ((m - 1) / 64)) ((m - 1) % 64) ≡ s m) → Packs s x
packs_by f s x l w e = record {
  size = l;
  bits = λ m b. by_words x f 8 (λ j h. word_at f x 0 8 w j (omega arith) (omega arith)) m (word_of m b) ∙ e m b;
}

-- words of two sets joined by an operation of which each bit is that of two bits
pub packs_two : (op : ℕ → ℕ → ℕ) (q : Bool → Bool → Bool) → ((x y k : ℕ) → bit_at (op x y) k ≡ q (bit_at x k) (bit_at y k))
    → (u v x : List ℕ) → length x ≡ 8 → Words (λ j. op (get_or u j 0) (get_or v j 0)) x 0 8 → Packs (λ m. q (packed u m) (packed v m)) x
packs_two op q e u v x l w = packs_by (λ j. op (get_or u j 0) (get_or v j 0)) _ x l w (λ m b.
    e (get_or u ((m - 1) / 64) 0) (get_or v ((m - 1) / 64) 0) ((m - 1) % 64) ∙ sym (ap₂ q (packed_bit u m) (packed_bit v m)))

-- a word with bit k written: set by `w | 2 ^ k`, taken out of that by `^ 2 ^ k`
pub bit_in : (w k j : ℕ) → bit_at (bit_or w (2 ^ k)) j ≡ pick (eqb k j) true (bit_at w j)
bit_in w k j = or_bit w (2 ^ k) j ∙ ap (λ q. bit_at w j || q) (pow_bit k j) ∙ go (bit_at w j) (eqb k j)
  where
    go : (a b : Bool) → a || b ≡ pick b true a
    go true true = refl
    go true false = refl
    go false true = refl
    go false false = refl

pub bit_out : (w k j : ℕ) → bit_at (bit_xor (bit_or w (2 ^ k)) (2 ^ k)) j ≡ pick (eqb k j) false (bit_at w j)
unfolding xor
bit_out w k j = xor_bit (bit_or w (2 ^ k)) (2 ^ k) j ∙ ap₂ xor (bit_in w k j) (pow_bit k j) ∙ go (bit_at w j) (eqb k j)
  where
    go : (a b : Bool) → xor (pick b true a) b ≡ pick b false a
    go true true = refl
    go true false = refl
    go false true = refl
    go false false = refl

-- node n's bit written in a set
pub marks_by : (x : List ℕ) (n v : ℕ) (here : Bool) → length x ≡ 8 → Bit n
    → ((j : ℕ) → bit_at v j ≡ pick (eqb ((n - 1) % 64) j) here (bit_at (get_or x ((n - 1) / 64) 0) j))
    → Packs (λ m. pick (eqb n m) here (packed x m)) (set x ((n - 1) / 64) v)
marks_by x n v here l b h = record {
  size = length-set x at v ∙ l;
  bits = λ m c. packed_bit (set x at v) m ∙ go m c (ℕ_discrete ((m - 1) / 64) at);
}
  where
    at : ℕ
    at = (n - 1) / 64

    place : (m : ℕ) → Bit m → (m - 1) / 64 ≡ at → Dec (n ≡ m) → eqb ((n - 1) % 64) ((m - 1) % 64) ≡ eqb n m
    place m c e (yes d) = rw (eq-eqb n m d) (eq-eqb ((n - 1) % 64) ((m - 1) % 64) (ap (λ y. (y - 1) % 64) d))
    place m c e (no d) = rw (ne_eqb n m d) (ne_eqb ((n - 1) % 64) ((m - 1) % 64) (λ r. d (omega (arith, r, e, b.0, c.0))))

    go : (m : ℕ) → Bit m → Dec ((m - 1) / 64 ≡ at)
        → bit_at (get_or (set x at v) ((m - 1) / 64) 0) ((m - 1) % 64) ≡ pick (eqb n m) here (packed x m)
    go m c (yes e) =
        ap (λ y. bit_at y ((m - 1) % 64)) (ap (λ i. get_or (set x at v) i 0) e ∙ get_or-set_same x at v 0 (omega (arith, word_of n b, l)))
        ∙ h ((m - 1) % 64)
        ∙ ap₂ (λ p q. pick p here q) (place m c e (ℕ_discrete n m))
        (ap (λ i. bit_at (get_or x i 0) ((m - 1) % 64)) (sym e) ∙ sym (packed_bit x m))
    go m c (no e) =
        rw (ne_eqb n m (λ d. e (ap (λ y. (y - 1) / 64) (sym d))))
        (ap (λ y. bit_at y ((m - 1) % 64)) (get_or-set_other x at ((m - 1) / 64) v 0 e) ∙ sym (packed_bit x m))

-- bit j + 1 of a number is bit j of its half
half_bit : (x j : ℕ) → bit_at x (suc j) ≡ bit_at (x / 2) j
half_bit x j = ap (λ y. eqb (y % 2) 1) (ap (λ i. x / 2 ^ i) (omega arith) ∙ sym (shr-shr x 1 j))

-- of the k bits of a number that is not 0, the one past its trailing zeros is the lowest
pub trailing : (k x : ℕ) → x < 2 ^ k → (x ≡ 0 → ⊥) → LowBit k x (count_trailing_zeros k x)
unfolding count_trailing_zeros
trailing zero x l z = absurd (z (omega arith))
trailing (suc k) x l z = go (x % 2) refl (λ p q. trailing k (x / 2) p q)
  where
    halved : (x y z : ℕ) → x < z → z ≡ y * 2 → x / 2 < y
    halved x y z l e = omega arith

    whole : (x : ℕ) → x / 1 % 2 ≡ x % 2
    whole x = omega arith

    odd : (x d : ℕ) → x % 2 ≡ suc d → x % 2 ≡ 1
    odd x d e = omega arith

    even : x % 2 ≡ 0 → (t : ℕ) → LowBit k (x / 2) t → LowBit (suc k) x (suc t)
    even e t r = record { inside = omega (arith, r.inside); here = half_bit x t ∙ r.here; below = below }
      where
        below : (j : ℕ) → j < suc t → bit_at x j ≡ false
        below zero h = ap (λ y. eqb y 1) (whole x ∙ e)
        below (suc j) h = half_bit x j ∙ r.below j (omega arith)

    go : (d : ℕ) → x % 2 ≡ d → (x / 2 < 2 ^ k → (x / 2 ≡ 0 → ⊥) → LowBit k (x / 2) (count_trailing_zeros k (x / 2)))
        → LowBit (suc k) x (under d (count_trailing_zeros k (x / 2)))
    go zero e f = even e (count_trailing_zeros k (x / 2)) (f (halved x (2 ^ k) (2 ^ suc k) l (pow-suc 2 k)) (λ q. z (omega (arith, e, q))))
    go (suc d) e f = record {
      inside = omega arith;
      here = ap (λ y. eqb y 1) (whole x ∙ odd x d e);
      below = λ j h. absurd (omega arith);
    }

-- the lowest number that is in a set of eight words, of which the first j are 0
module _ (f : ℕ → ℕ) (s : Test) (bits : (m : ℕ) → bit_at (f ((m - 1) / 64)) ((m - 1) % 64) ≡ s m)
    (j : ℕ) (none : (k : ℕ) → k < j → f k ≡ 0) where
  past : (t : ℕ) → t ≤ 64 → ((q : ℕ) → q < t → bit_at (f j) q ≡ false) → lowest (λ m. not (s m)) (64 * j + t) ≡ 0
  past t l h = passes_lowest (λ m. not (s m)) (64 * j + t) (λ m a b. rw (sym (bits m) ∙ go m a b (dec_lt ((m - 1) / 64) j)) tt)
    where
      go : (m : ℕ) → 1 ≤ m → m ≤ 64 * j + t → Dec ((m - 1) / 64 < j) → bit_at (f ((m - 1) / 64)) ((m - 1) % 64) ≡ false
      go m a b (yes d) = ap (λ x. bit_at x ((m - 1) % 64)) (none ((m - 1) / 64) d) ∙ zero_bit ((m - 1) % 64)
      go m a b (no d) = ap (λ i. bit_at (f i) ((m - 1) % 64)) (omega arith) ∙ h ((m - 1) % 64) (omega arith)

  pub lowest_none : j ≡ 8 → lowest (λ m. not (s m)) 512 ≡ 0
  lowest_none e = ap (lowest (λ m. not (s m))) (omega arith) ∙ past 0 (omega arith) (λ q h. absurd (omega arith))

  pub lowest_in : j < 8 → (t : ℕ) → LowBit 64 (f j) t → lowest (λ m. not (s m)) 512 ≡ 64 * j + t + 1
  lowest_in l t r =
      lowest_found (λ m. not (s m)) (64 * j + t) 512 (past t (omega (arith, r.inside)) r.below)
      (ap not (sym (bits (64 * j + t + 1)) ∙ ap₂ (λ i k. bit_at (f i) k) (word t r.inside) (bit t r.inside) ∙ r.here))
      (omega (arith, r.inside))
    where
      word : (t : ℕ) → t < 64 → (64 * j + t + 1 - 1) / 64 ≡ j
      word t h = omega arith

      bit : (t : ℕ) → t < 64 → (64 * j + t + 1 - 1) % 64 ≡ t
      bit t h = omega arith

-- word j of what is armed, or waiting and not held
abbrev pub ready_word : (armed waiting held : List ℕ) → ℕ → ℕ
ready_word a w h j = bit_or (get_or a j 0) (bit_xor (get_or w j 0) (bit_and (get_or w j 0) (get_or h j 0)))

-- its bits are the nodes that are ready
pub ready_bit : (a w i h : List ℕ) (m : ℕ) → bit_at (ready_word a w h ((m - 1) / 64)) ((m - 1) % 64) ≡ ready (sets_as a w i h) m
ready_bit a w i h m =
    let j = (m - 1) / 64 in
    let k = (m - 1) % 64 in
    or_bit (get_or a j 0) (bit_xor (get_or w j 0) (bit_and (get_or w j 0) (get_or h j 0))) k
    ∙ ap (λ q. bit_at (get_or a j 0) k || q) (without_bit (get_or w j 0) (get_or h j 0) k)
    ∙ sym (rw (packed_bit a m, packed_bit w m, packed_bit h m))
