-- packed sets: words joined, a bit written, a set of the rows written; set k of the rows begins at word 8 k
use Rattle.std.proofs.Common.{◌≡◌, ℕ, zero, suc, ◌+◌, ◌-◌, ◌*◌, ◌/◌, ◌%◌, ◌^◌, ◌<◌, ◌≤◌, Bool, true}
use Rattle.std.proofs.Common.{false, ◌&&◌, ◌||◌, eqb, List, length, get_or, set}
use Rattle.std.proofs.Common.{replicate, sym, refl, ap, ◌∙◌, ap₂, arith, length-set, get_or-set_other, get_or-set_same, eq-eqb, ne_eqb}
use native.Mathlib.Decide.{ℕ_discrete}
use native.Mathlib.Nat.{div-one}
use lib.Bits.{bit_or}
use Rattle.std.specs.Int.{w64, to_le_bytes}
use Rattle.list.specs.Arbiters.{Test}
use Rattle.list.specs.Working.{bit_at, packed, Bit, Adds, PutAt}
use Rattle.list.specs.Tags.{tagged}
use Rattle.list.proofs.BitLaws.{or_bit, pow_bit, zero_bit, zeros_at, tagged_bit, byte_bit}

-- a node's bit is in its word
pub packed_bit : (l : List ℕ) (m : ℕ) → packed l m ≡ bit_at (get_or l ((m - 1) / 64) 0) ((m - 1) % 64)
unfolding packed
packed_bit l m = refl

-- from words to bits: x is at each word what f says
pub by_words : (x : List ℕ) (f : ℕ → ℕ) (w : ℕ) → ((j : ℕ) → j < w → get_or x j 0 ≡ f j) → (m : ℕ) → (m - 1) / 64 < w
    → packed x m ≡ bit_at (f ((m - 1) / 64)) ((m - 1) % 64)
by_words x f w h m l = packed_bit x m ∙ ap (λ y. bit_at y ((m - 1) % 64)) (h ((m - 1) / 64) l)

pub word_of : (m : ℕ) → Bit m → (m - 1) / 64 < 8
word_of m b = omega arith

-- bit m of set g of the rows
pub row_word : (g m : ℕ) → 1 ≤ m → (512 * g + m - 1) / 64 ≡ 8 * g + (m - 1) / 64
row_word g m h = omega arith

pub row_bit : (g m : ℕ) → 1 ≤ m → (512 * g + m - 1) % 64 ≡ (m - 1) % 64
row_bit g m h = omega arith

pub packed_row : (l : List ℕ) (g m : ℕ) → 1 ≤ m → packed l (512 * g + m) ≡ bit_at (get_or l (8 * g + (m - 1) / 64) 0) ((m - 1) % 64)
packed_row l g m h = packed_bit l (512 * g + m) ∙ ap₂ (λ a b. bit_at (get_or l a 0) b) (row_word g m h) (row_bit g m h)

-- a set of no bit
pub none_packed : (n m : ℕ) → packed (replicate n 0) m ≡ false
none_packed n m = packed_bit (replicate n 0) m ∙ ap (λ x. bit_at x ((m - 1) % 64)) (zeros_at n ((m - 1) / 64)) ∙ zero_bit ((m - 1) % 64)

-- a set to which something was added word by word
pub adds_by : (f : ℕ → ℕ) (s : Test) (x₀ x : List ℕ) → length x ≡ 8 → ((j : ℕ) → j < 8 → get_or x j 0 ≡ bit_or (get_or x₀ j 0) (f j))
    → ((m : ℕ) → Bit m → bit_at (f ((m - 1) / 64)) ((m - 1) % 64) ≡ s m) → Adds s x₀ x
adds_by f s x₀ x l h e = record {
  size = l;
  bits = λ m b. by_words x (λ j. bit_or (get_or x₀ j 0) (f j)) 8 h m (word_of m b)
      ∙ or_bit (get_or x₀ ((m - 1) / 64) 0) (f ((m - 1) / 64)) ((m - 1) % 64)
      ∙ ap₂ (λ p q. p || q) (sym (packed_bit x₀ m)) (e m b);
}

-- one bit written
pub one_more_lem : (x : List ℕ) (n : ℕ) → 1 ≤ n → (n - 1) / 64 < length x → (m : ℕ) → 1 ≤ m
    → packed (set x ((n - 1) / 64) (bit_or (get_or x ((n - 1) / 64) 0) (2 ^ ((n - 1) % 64)))) m ≡ packed x m || eqb n m
one_more_lem x n b inside m c = go (ℕ_discrete ((m - 1) / 64) at)
  where
    at : ℕ
    at = (n - 1) / 64

    v : ℕ
    v = bit_or (get_or x at 0) (2 ^ ((n - 1) % 64))

    or_no : (p : Bool) → p ≡ p || false
    or_no true = refl
    or_no false = refl

    place : (n m : ℕ) → 1 ≤ n → 1 ≤ m → (m - 1) / 64 ≡ (n - 1) / 64 → eqb ((n - 1) % 64) ((m - 1) % 64) ≡ eqb n m
    place n m p q e = here (ℕ_discrete n m)
      where
        here : Dec (n ≡ m) → eqb ((n - 1) % 64) ((m - 1) % 64) ≡ eqb n m
        here (yes d) = eq-eqb ((n - 1) % 64) ((m - 1) % 64) (ap (λ x. (x - 1) % 64) d) ∙ sym (eq-eqb n m d)
        here (no d) = ne_eqb ((n - 1) % 64) ((m - 1) % 64) (λ r. d (omega (arith, r, e))) ∙ sym (ne_eqb n m d)

    go : Dec ((m - 1) / 64 ≡ at) → packed (set x at v) m ≡ packed x m || eqb n m
    go (yes e) =
        packed_bit (set x at v) m ∙ ap (λ y. bit_at y ((m - 1) % 64)) (ap (λ i. get_or (set x at v) i 0) e
        ∙ get_or-set_same x at v 0 inside)
        ∙ or_bit (get_or x at 0) (2 ^ ((n - 1) % 64)) ((m - 1) % 64)
        ∙ ap₂ (λ p q. p || q) (ap (λ i. bit_at (get_or x i 0) ((m - 1) % 64)) (sym e) ∙ sym (packed_bit x m))
        (pow_bit ((n - 1) % 64) ((m - 1) % 64) ∙ place n m b c e)
    go (no e) =
        packed_bit (set x at v) m ∙ ap (λ y. bit_at y ((m - 1) % 64)) (get_or-set_other x at ((m - 1) / 64) v 0 e) ∙ sym (packed_bit x m)
        ∙ or_no (packed x m)
        ∙ ap (λ q. packed x m || q) (sym (ne_eqb n m (λ d. e (ap (λ y. (y - 1) / 64) (sym d)))))

pub adds_one : (x : List ℕ) (n : ℕ) → length x ≡ 8 → Bit n
    → Adds (eqb n) x (set x ((n - 1) / 64) (bit_or (get_or x ((n - 1) / 64) 0) (2 ^ ((n - 1) % 64))))
adds_one x n l b = record {
  size = length-set x ((n - 1) / 64) _ ∙ l;
  bits = λ m c. one_more_lem x n b.0 (omega (arith, word_of n b, l)) m c.0;
}

-- one bit written in a set of the rows
pub put_row : (x : List ℕ) (g n : ℕ) → length x ≡ 520 → g ≤ 64 → Bit n
    → PutAt g n x (set x (8 * g + (n - 1) / 64) (bit_or (get_or x (8 * g + (n - 1) / 64) 0) (2 ^ ((n - 1) % 64))))
put_row x g n l k b = record { size = length-set x (8 * g + (n - 1) / 64) _ ∙ l; bits = bits }
  where
    q : ℕ
    q = 512 * g + n

    low : 1 ≤ q
    low = omega (arith, b.0)

    inside : (q - 1) / 64 < length x
    inside = omega (arith, row_word g n b.0, word_of n b, l)

    apart : (g n h m : ℕ) → Bit n → Bit m → eqb (512 * g + n) (512 * h + m) ≡ eqb g h && eqb n m
    apart g n h m b c = go (ℕ_discrete g h) (ℕ_discrete n m)
      where
        go : Dec (g ≡ h) → Dec (n ≡ m) → eqb (512 * g + n) (512 * h + m) ≡ eqb g h && eqb n m
        go (yes d) (yes e) = eq-eqb (512 * g + n) (512 * h + m) (omega (arith, d, e))
            ∙ sym (ap₂ (λ p q. p && q) (eq-eqb g h d) (eq-eqb n m e))
        go (yes d) (no e) =
            ne_eqb (512 * g + n) (512 * h + m) (λ z. e (omega (arith, d, z))) ∙ sym (ap₂ (λ p q. p && q) (eq-eqb g h d) (ne_eqb n m e))
        go (no d) e = ne_eqb (512 * g + n) (512 * h + m) (λ z. d (omega (arith, z, b.0, b.1, c.0, c.1)))
            ∙ sym (ap (λ p. p && eqb n m) (ne_eqb g h d))

    bits : (h m : ℕ) → Bit m
        → packed (set x (8 * g + (n - 1) / 64) (bit_or (get_or x (8 * g + (n - 1) / 64) 0) (2 ^ ((n - 1) % 64)))) (512 * h + m)
        ≡ packed x (512 * h + m) || (eqb g h && eqb n m)
    bits h m c =
        ap₂ (λ a k. packed (set x a (bit_or (get_or x a 0) (2 ^ k))) (512 * h + m)) (sym (row_word g n b.0)) (sym (row_bit g n b.0))
        ∙ one_more_lem x q low inside (512 * h + m) (omega (arith, c.0)) ∙ ap (λ p. packed x (512 * h + m) || p) (apart g n h m b c)

-- the bytes of a word
pub word_bytes : (x j : ℕ) → j < 8 → get_or (to_le_bytes w64 x) j 0 ≡ x / 2 ^ (8 * j) % 256
word_bytes x zero h = rw div-one refl
word_bytes x (suc zero) h = refl
word_bytes x (suc (suc zero)) h = refl
word_bytes x (suc (suc (suc zero))) h = refl
word_bytes x (suc (suc (suc (suc zero)))) h = refl
word_bytes x (suc (suc (suc (suc (suc zero))))) h = refl
word_bytes x (suc (suc (suc (suc (suc (suc zero)))))) h = refl
word_bytes x (suc (suc (suc (suc (suc (suc (suc zero))))))) h = refl
word_bytes x (suc (suc (suc (suc (suc (suc (suc (suc j)))))))) h = absurd (omega arith)

-- the first i words in bytes, eight of each word, the lowest first
abbrev pub Bytes : (words x : List ℕ) (i : ℕ) → Type 0
Bytes words x i = (j : ℕ) → j < 8 * i → get_or x j 0 ≡ get_or words (j / 8) 0 / 2 ^ (8 * (j % 8)) % 256

pub bytes_more : (words x₀ x : List ℕ) (i : ℕ) → Bytes words x₀ i
    → ((j : ℕ) → j < 8 → get_or x (8 * i + j) 0 ≡ get_or (to_le_bytes w64 (get_or words i 0)) j 0)
    → ((j : ℕ) → j < 8 * i → get_or x j 0 ≡ get_or x₀ j 0) → Bytes words x (i + 1)
bytes_more words x₀ x i b here before j h = go (ℕ_discrete (j / 8) i)
  where
    place : (j : ℕ) → j ≡ 8 * (j / 8) + j % 8
    place j = omega arith

    go : Dec (j / 8 ≡ i) → get_or x j 0 ≡ get_or words (j / 8) 0 / 2 ^ (8 * (j % 8)) % 256
    go (yes e) =
        ap (λ k. get_or x k 0) (place j ∙ ap (λ k. 8 * k + j % 8) e) ∙ here (j % 8) (omega arith)
        ∙ word_bytes (get_or words i 0) (j % 8) (omega arith)
        ∙ ap (λ k. get_or words k 0 / 2 ^ (8 * (j % 8)) % 256) (sym e)
    go (no e) = before j (omega (arith, e)) ∙ b j (omega (arith, e))

pub bytes_of : (words x : List ℕ) → Bytes words x 8 → (m : ℕ) → Bit m → tagged x m ≡ packed words m
bytes_of words x h m b =
    tagged_bit x m b.0 ∙ ap (λ y. bit_at y ((m - 1) % 8)) (h ((m - 1) / 8) (omega arith))
    ∙ byte_bit (get_or words ((m - 1) / 8 / 8) 0) (8 * ((m - 1) / 8 % 8)) ((m - 1) % 8) (omega arith)
    ∙ ap₂ (λ a k. bit_at (get_or words a 0) k) (word m) (bit m) ∙ sym (packed_bit words m)
  where
    word : (m : ℕ) → (m - 1) / 8 / 8 ≡ (m - 1) / 64
    word m = omega arith

    bit : (m : ℕ) → 8 * ((m - 1) / 8 % 8) + (m - 1) % 8 ≡ (m - 1) % 64
    bit m = omega arith
