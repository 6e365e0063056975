-- an array of cells, slot by slot: what numbers put into a slot change, what fields are read then, and those of the records
use Prim.Native.Nat.{ℕ, zero, suc, ◌+◌, ◌*◌, ◌/◌, ◌%◌, ◌≤◌, ◌<◌}
use mathlib.Core.Path.{◌≡◌, refl, sym, ap, ap₂, ◌∙◌}
use mathlib.Core.List.{List}
use native.Mathlib.Omega.{arith}
use native.Mathlib.Decide.{ℕ_discrete, dec_lt}
use lib.Dec.{eqb, ltb}
use lib.ListN.{length, length-set}
use lib.Seq.{get_or-set_same, get_or-set_other}
use borrow.Author.Tests.{lt-ltb, le-ltb, eq-eqb, ne_eqb}
use Rattle.table.specs.Pick.{pick}
use Rattle.table.specs.Bytes.{two_at, four_at, function_at, node_at, params, width_byte, bits, width, root, kind, extra, word, first, next}
use Rattle.table.specs.Naming.{owner}
use Rattle.table.specs.Decoded.{number_at, put_number, put_numbers, field_of, cell_at, node_slot, function_slot, low, high}
use Rattle.table.specs.Decoded.{node_field, function_field, node_number, function_number}
use Rattle.table.specs.Working.{IsNode, IsFunction, CellsTo}

-- by a field or a number of a slot
pub by_eight : (P : ℕ → Type 0) → P 0 → P 1 → P 2 → P 3 → P 4 → P 5 → P 6 → P 7 → (k : ℕ) → k < 8 → P k
by_eight P a b c d e f g h zero l = a
by_eight P a b c d e f g h (suc zero) l = b
by_eight P a b c d e f g h (suc (suc zero)) l = c
by_eight P a b c d e f g h (suc (suc (suc zero))) l = d
by_eight P a b c d e f g h (suc (suc (suc (suc zero)))) l = e
by_eight P a b c d e f g h (suc (suc (suc (suc (suc zero))))) l = f
by_eight P a b c d e f g h (suc (suc (suc (suc (suc (suc zero)))))) l = g
by_eight P a b c d e f g h (suc (suc (suc (suc (suc (suc (suc zero))))))) l = h
by_eight P a b c d e f g h (suc (suc (suc (suc (suc (suc (suc (suc k)))))))) l = absurd (omega arith)

-- slot s of an array becomes W, and the others stay
pub record Row (s : ℕ) (W : ℕ → ℕ) (cells cells' : List ℕ) : Type 0 where
  pub size : length cells' ≡ length cells
  pub here : (k : ℕ) → k < 6 → number_at cells' s k ≡ W k
  pub other : (s' k : ℕ) → (s' ≡ s → ⊥) → k < 6 → number_at cells' s' k ≡ number_at cells s' k

pub row_start : (s : ℕ) (cells : List ℕ) → Row s (number_at cells s) cells cells
row_start s cells = record { size = refl; here = λ k h. refl; other = λ s' k d h. refl }

pub row_put : (s : ℕ) (W : ℕ → ℕ) (cells cells' : List ℕ) → length cells ≡ 3270 → s < 545 → Row s W cells cells' → (j x : ℕ) → j < 6
    → Row s (λ k. pick (eqb k j) x (W k)) cells (put_number cells' s j x)
unfolding number_at put_number
row_put s W cells cells' z b r j x i = record {
  size = length-set cells' (6 * s + j) x ∙ r.size;
  here = λ k h. here k h (ℕ_discrete k j);
  other = λ s' k d h. get_or-set_other cells' (6 * s + j) (6 * s' + k) x 0 (λ e. d (omega arith)) ∙ r.other s' k d h;
}
  where
    here : (k : ℕ) → k < 6 → Dec (k ≡ j) → number_at (put_number cells' s j x) s k ≡ pick (eqb k j) x (W k)
    here k h (yes e) = rw (e, eq-eqb j j refl) (get_or-set_same cells' (6 * s + j) x 0 (omega (arith, r.size)))
    here k h (no e) = rw (ne_eqb k j e) (get_or-set_other cells' (6 * s + j) (6 * s + k) x 0 (λ q. e (omega arith)) ∙ r.here k h)

row_as : {s : ℕ} {W U : ℕ → ℕ} {cells cells' : List ℕ} → Row s W cells cells' → ((k : ℕ) → k < 6 → W k ≡ U k) → Row s U cells cells'
row_as r f = record { size = r.size; here = λ k h. r.here k h ∙ f k h; other = r.other }

-- the numbers of slot s, of which the first k are put
abbrev pub over : (k s : ℕ) → (ℕ → ℕ) → List ℕ → ℕ → ℕ
over k s g cells j = pick (ltb j k) (g j) (number_at cells s j)

pub row_numbers : (k s : ℕ) (g : ℕ → ℕ) (cells : List ℕ) → length cells ≡ 3270 → s < 545 → k ≤ 6
    → Row s (over k s g cells) cells (put_numbers k s g cells)
unfolding put_numbers
row_numbers zero s g cells z b i = row_as (row_start s cells) (λ j h. sym (ap (λ x. pick x (g j) (number_at cells s j)) (le-ltb j 0
    (omega arith))))
row_numbers (suc k) s g cells z b i =
    row_as (row_put s _ cells _ z b (row_numbers k s g cells z b (omega arith)) k (g k) (omega arith)) (λ j h. one_more_lem j
    (ℕ_discrete j k) (dec_lt j k))
  where
    one_more_lem : (j : ℕ) → Dec (j ≡ k) → Dec (j < k)
        → pick (eqb j k) (g k) (pick (ltb j k) (g j) (number_at cells s j)) ≡ pick (ltb j (suc k)) (g j) (number_at cells s j)
    one_more_lem j (yes e) d = rw (eq-eqb j k e, lt-ltb j (suc k) (omega arith)) (ap g (sym e))
    one_more_lem j (no e) (yes d) = rw (ne_eqb j k e, lt-ltb j k d, lt-ltb j (suc k) (omega arith))
    one_more_lem j (no e) (no d) = rw (ne_eqb j k e, le-ltb j k (omega arith), le-ltb j (suc k) (omega arith))

-- the fields are read off the numbers alone
fields_as : (g h : ℕ → ℕ) → ((k : ℕ) → k < 6 → g k ≡ h k) → (k : ℕ) → k < 8 → field_of g k ≡ field_of h k
fields_as g h e = by_eight (λ k. field_of g k ≡ field_of h k) (ap (λ x. x % 256) (e 0 (omega arith)))
    (ap (λ x. x / 256) (e 0 (omega arith)))
    (e 1 (omega arith)) (e 2 (omega arith)) (e 3 (omega arith)) (e 4 (omega arith)) (ap (λ x. x % 64) (e 5 (omega arith)))
    (ap (λ x. x / 64) (e 5 (omega arith)))

module _ {s : ℕ} {W : ℕ → ℕ} {cells cells' : List ℕ} (row : Row s W cells cells') where
  pub field_here : (k : ℕ) → k < 8 → cell_at cells' s k ≡ field_of W k
  unfolding cell_at
  field_here = fields_as (number_at cells' s) W row.here

  pub field_other : (s' k : ℕ) → (s' ≡ s → ⊥) → k < 8 → cell_at cells' s' k ≡ cell_at cells s' k
  unfolding cell_at
  field_other s' k d = fields_as (number_at cells' s') (number_at cells s') (λ j. row.other s' j d) k

-- a node's numbers hold its fields: the kind is a byte, the function below 64
module _ (t : List ℕ) (n : ℕ) where
  first_two : two_at t (node_at t n + 2 * 0) ≡ kind t n + 256 * extra t n
  unfolding two_at kind extra
  first_two = let e : node_at t n + 2 * 0 ≡ node_at t n = omega arith in ap (two_at t) e

  upper_half : two_at t (node_at t n + 2 * 2) ≡ high t n
  unfolding high
  upper_half = ap (two_at t) (omega arith)

  pub record_fields : kind t n < 256 → (k : ℕ) → k < 6 → field_of (node_number t n) k ≡ node_field t n k
  unfolding low first next
  record_fields a zero h = omega (arith, first_two)
  record_fields a (suc zero) h = omega (arith, first_two)
  record_fields a (suc (suc zero)) h = refl
  record_fields a (suc (suc (suc zero))) h = upper_half
  record_fields a (suc (suc (suc (suc zero)))) h = refl
  record_fields a (suc (suc (suc (suc (suc zero))))) h = refl
  record_fields a (suc (suc (suc (suc (suc (suc k)))))) h = absurd (omega arith)

  pub node_fields : kind t n < 256 → owner t n < 64 → (k : ℕ) → k < 8 → field_of (node_number t n) k ≡ node_field t n k
  node_fields a b =
      let told = record_fields a in
      by_eight (λ k. field_of (node_number t n) k ≡ node_field t n k) (told 0 (omega arith)) (told 1 (omega arith)) (told 2 (omega arith))
      (told 3 (omega arith)) (told 4 (omega arith)) (told 5 (omega arith)) (omega arith) (omega arith)

-- a function's, of which the parameter count is a byte
module _ (t : List ℕ) (f : ℕ) where
  record_two : two_at t (function_at f + 2 * 0) ≡ params t f + 256 * width_byte t f
  unfolding two_at params width_byte
  record_two = let e : function_at f + 2 * 0 ≡ function_at f = omega arith in ap (two_at t) e

  pub function_fields : params t f < 256 → (k : ℕ) → k < 3 → field_of (function_number t f) k ≡ function_field t f k
  unfolding root
  function_fields a zero h = omega (arith, record_two)
  function_fields a (suc zero) h = omega (arith, record_two)
  function_fields a (suc (suc zero)) h = refl
  function_fields a (suc (suc (suc k))) h = absurd (omega arith)

-- the word is its two halves
pub word_read : (t cells : List ℕ) (top : ℕ) → 4 ≤ top → CellsTo t cells top → (n : ℕ) → IsNode t n
    → cell_at cells (node_slot n) 2 + 65536 * cell_at cells (node_slot n) 3 ≡ word t n
unfolding word four_at low high
word_read t cells top b h n i = ap₂ (λ x y. x + 65536 * y) (h.node n 2 i (omega arith)) (h.node n 3 i (omega arith))

-- a function's width is that of its width byte
pub width_read : (t cells : List ℕ) (top : ℕ) → CellsTo t cells top → (f : ℕ) → IsFunction t f
    → bits (cell_at cells (function_slot f) 1) ≡ width t f
unfolding width
width_read t cells top h f i = ap bits (h.function f 1 i (omega arith))
