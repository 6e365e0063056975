-- how far an array of cells is filled, slot by slot, while a table is checked, and what is read of it then
use Prim.Native.Nat.{ℕ, ◌+◌, ◌-◌, ◌*◌, ◌/◌, ◌%◌, ◌≤◌, ◌<◌}
use mathlib.Core.Path.{◌≡◌, refl, subst, sym, ap, ◌∙◌}
use mathlib.Core.List.{List}
use native.Mathlib.Omega.{arith}
use native.Mathlib.Decide.{ℕ_discrete, dec_lt, dec_le}
use native.Mathlib.Nat.{mod_self, mod-eq_of_lt}
use mathlib.Core.Bool.{Bool, true, false}
use lib.Dec.{eqb, ltb}
use lib.ListN.{length, get_or, replicate, length-replicate}
use borrow.Author.Tests.{le-leb, lt-leb, lt-ltb, le-ltb, ne_eqb}
use Rattle.table.specs.Pick.{pick}
use Rattle.table.specs.Bytes.{functions, nodes, params, kind}
use Rattle.table.specs.Naming.{owner, parent}
use Rattle.table.specs.Decoded.{number_at, cell_at, put_number, put_numbers, field_of, node_slot, function_slot, table_slot}
use Rattle.table.specs.Decoded.{node_field, function_field, table_field, node_number, function_number, table_number}
use Rattle.table.specs.Working.{IsFunction, Framed, Raw, Decoded, in_slot, up_to, filled_to, Filled}
use Rattle.table.proofs.Loops.{blank_at}
use Rattle.table.proofs.CellLaws.{by_eight, Row, row_start, row_put, over, row_numbers, field_here, field_other}
use Rattle.table.proofs.CellLaws.{record_fields, function_fields}

-- the number that has a slot, and the slot that a number has
number_other : (m s : ℕ) → (s ≡ 0 → ⊥) → in_slot m s ≡ s
number_other m s d = rw (ne_eqb s 0 d)

in_slot_low : (m s : ℕ) → 1 ≤ m → 1 ≤ in_slot m s
in_slot_low m s h = go (ℕ_discrete s 0)
  where
    go : Dec (s ≡ 0) → 1 ≤ in_slot m s
    go (yes q) = rw q h
    go (no q) = omega (arith, number_other m s q)

slot_number : (m j : ℕ) → 1 ≤ j → j ≤ m → in_slot m (j % m) ≡ j
slot_number m j a b = go (ℕ_discrete j m)
  where
    go : Dec (j ≡ m) → in_slot m (j % m) ≡ j
    go (yes q) = rw (q, mod_self m) refl
    go (no q) = rw (mod-eq_of_lt {n = j} {m = m} (omega arith)) (number_other m j (λ e. omega arith))

number_slot : (m s j : ℕ) → s < m → in_slot m s ≡ j → s ≡ j % m
number_slot m s j b e = go (ℕ_discrete s 0)
  where
    go : Dec (s ≡ 0) → s ≡ j % m
    go (yes q) =
        let p : m ≡ j = rw q at e in
        q ∙ sym (ap (λ i. i % m) (sym p) ∙ mod_self m)
    go (no q) = sym (ap (λ i. i % m) (sym e ∙ number_other m s q) ∙ mod-eq_of_lt b)

pub up_to_in : (g : ℕ → ℕ) (m n : ℕ) → n ≤ m → up_to m g n ≡ g n
up_to_in g m n h = ap (λ b. pick b (g n) 0) (le-leb n m h)

pub up_to_past : (g : ℕ → ℕ) (m n : ℕ) → m < n → up_to m g n ≡ 0
up_to_past g m n h = ap (λ b. pick b (g n) 0) (lt-leb n m h)

up_to_on : (g : ℕ → ℕ) (m n : ℕ) → (n ≡ m + 1 → ⊥) → up_to m g n ≡ up_to (m + 1) g n
up_to_on g m n d = go (dec_le n m)
  where
    go : Dec (n ≤ m) → up_to m g n ≡ up_to (m + 1) g n
    go (yes h) = up_to_in g m n h ∙ sym (up_to_in g (m + 1) n (omega arith))
    go (no h) = up_to_past g m n (omega arith) ∙ sym (up_to_past g (m + 1) n (omega arith))

-- which of the three kinds a slot is of
module _ (t : List ℕ) (f n m : ℕ) where
  of_node : (s k : ℕ) → s < 512 → filled_to t f n m s k ≡ up_to (pick (ltb k 6) n m) (λ n. node_field t n k) (in_slot 512 s)
  of_node s k h = rw (lt-ltb s 512 h)

  of_function : (s k : ℕ) → 512 ≤ s → s < 544 → filled_to t f n m s k ≡ up_to f (λ f. function_field t f k) (in_slot 32 (s - 512))
  of_function s k h l = rw (le-ltb s 512 h, lt-ltb s 544 l)

  of_table : (s k : ℕ) → 544 ≤ s → filled_to t f n m s k ≡ table_field t k
  of_table s k h = rw (le-ltb s 512 (omega arith), le-ltb s 544 h)

-- one slot more
module _ (t cells cells' : List ℕ) (f n m f' n' m' s₀ : ℕ) (W : ℕ → ℕ) (h : Filled t f n m cells) (row : Row s₀ W cells cells')
    (fits : (k : ℕ) → k < 8 → field_of W k ≡ filled_to t f' n' m' s₀ k)
    (on : (s k : ℕ) → s < 545 → k < 8 → (s ≡ s₀ → ⊥) → filled_to t f n m s k ≡ filled_to t f' n' m' s k) where
  filled_row : Filled t f' n' m' cells'
  filled_row = record { size = row.size ∙ h.size; each = λ s k a b. each s k a b (ℕ_discrete s s₀) }
    where
      each : (s k : ℕ) → s < 545 → k < 8 → Dec (s ≡ s₀) → cell_at cells' s k ≡ filled_to t f' n' m' s k
      each s k a b (yes e) = rw e (field_here row k b ∙ fits k b)
      each s k a b (no e) = field_other row s k e b ∙ h.each s k a b ∙ on s k a b e

-- nothing but the sizes
pub filled_none : (t cells : List ℕ) → Framed t → cells ≡ replicate 3270 0 → (cells' : List ℕ)
    → cells' ≡ put_numbers 2 table_slot (table_number t) cells → Filled t 0 0 0 cells'
unfolding number_at cell_at
filled_none t cells fr e cells' q =
    subst (Filled t 0 0 0) (sym q) (record { size = two.size ∙ size; each = λ s k a b. each s k a b (ℕ_discrete s 544) })
  where
    size : length cells ≡ 3270
    size = ap length e ∙ length-replicate {A = ℕ} 3270 0

    W : ℕ → ℕ
    W = over 2 544 (table_number t) cells

    two : Row 544 W cells (put_numbers 2 544 (table_number t) cells)
    two = row_numbers 2 544 (table_number t) cells size (omega arith) (omega arith)

    zero_at : (i : ℕ) → get_or cells i 0 ≡ 0
    zero_at i = ap (λ l. get_or l i 0) e ∙ blank_at {A = ℕ} 3270 i 0

    blank : (s k : ℕ) → k < 8 → cell_at cells s k ≡ 0
    blank s = by_eight (λ k. cell_at cells s k ≡ 0) (ap (λ x. x % 256) (zero_at _)) (ap (λ x. x / 256) (zero_at _)) (zero_at _) (zero_at _)
        (zero_at _) (zero_at _) (ap (λ x. x % 64) (zero_at _)) (ap (λ x. x / 64) (zero_at _))

    none : (b : Bool) → ◌≡◌ {A = ℕ} (pick b 0 0) 0
    none true = refl
    none false = refl

    own : (k : ℕ) → k < 8 → field_of W k ≡ table_field t k
    own =
        let small = fr.f_high in
        let zero_of = blank 544 in
        by_eight (λ k. field_of W k ≡ table_field t k) (omega arith) (omega arith) refl (zero_of 3 (omega arith)) (zero_of 4 (omega arith))
        (zero_of 5 (omega arith)) (zero_of 6 (omega arith)) (zero_of 7 (omega arith))

    past : (s k : ℕ) → s < 544 → Dec (s < 512) → filled_to t 0 0 0 s k ≡ 0
    past s k a (yes b) = of_node t 0 0 0 s k b
        ∙ ap (λ x. up_to x (λ n. node_field t n k) (in_slot 512 s)) (none (ltb k 6))
        ∙ up_to_past (λ n. node_field t n k) 0 (in_slot 512 s) (in_slot_low 512 s (omega arith))
    past s k a (no b) = of_function t 0 0 0 s k (omega arith) a
        ∙ up_to_past (λ f. function_field t f k) 0 (in_slot 32 (s - 512)) (in_slot_low 32 (s - 512) (omega arith))

    each : (s k : ℕ) → s < 545 → k < 8 → Dec (s ≡ 544)
        → cell_at (put_numbers 2 544 (table_number t) cells) s k ≡ filled_to t 0 0 0 s k
    each s k a b (yes q) = rw q (field_here two k b ∙ own k b)
    each s k a b (no q) = field_other two s k q b ∙ blank s k b ∙ sym (past s k (omega arith) (dec_lt s 512))

-- a function more
module _ (t cells : List ℕ) (f : ℕ) (l : f < 32) (h : Filled t f 0 0 cells) where
  abbrev function_numbers : ℕ → ℕ
  function_numbers = over 2 (function_slot (f + 1)) (function_number t (f + 1)) cells

  function_row : Row (function_slot (f + 1)) function_numbers cells (put_numbers 2 (function_slot (f + 1))
      (function_number t (f + 1)) cells)
  function_row = row_numbers 2 (function_slot (f + 1)) (function_number t (f + 1)) cells h.size (omega arith) (omega arith)

  -- f + 1 is the function whose slot this is
  own_function : (g k : ℕ) → filled_to t g 0 0 (function_slot (f + 1)) k ≡ up_to g (λ f. function_field t f k) (f + 1)
  own_function g k =
      let s = function_slot (f + 1) in
      of_function t g 0 0 s k (omega arith) (omega arith)
      ∙ ap (λ n. up_to g (λ f. function_field t f k) n) (ap (in_slot 32) less ∙ slot_number 32 (f + 1) (omega arith) (omega arith))
    where
      less : function_slot (f + 1) - 512 ≡ (f + 1) % 32
      less = omega arith

  pub filled_function : params t (f + 1) < 256 → (cells' : List ℕ)
      → cells' ≡ put_numbers 2 (function_slot (f + 1)) (function_number t (f + 1)) cells → Filled t (f + 1) 0 0 cells'
  unfolding cell_at
  filled_function small cells' e = subst (Filled t (f + 1) 0 0) (sym e)
      (filled_row t cells _ f 0 0 (f + 1) 0 0 (function_slot (f + 1)) _ h function_row
      (λ k b. fits k b ∙ sym (own_function (f + 1) k ∙ up_to_in (λ f. function_field t f k) (f + 1) (f + 1) (omega arith))) on)
    where
      -- nothing stood there before
      blank : (k : ℕ) → k < 8 → cell_at cells (function_slot (f + 1)) k ≡ 0
      blank k b = h.each (function_slot (f + 1)) k (omega arith) b ∙ own_function f k
          ∙ up_to_past (λ f. function_field t f k) f (f + 1) (omega arith)

      told : (k : ℕ) → k < 3 → field_of (function_number t (f + 1)) k ≡ function_field t (f + 1) k
      told = function_fields t (f + 1) small

      fits : (k : ℕ) → k < 8 → field_of function_numbers k ≡ function_field t (f + 1) k
      fits = by_eight (λ k. field_of function_numbers k ≡ function_field t (f + 1) k) (told 0 (omega arith)) (told 1 (omega arith))
          (told 2 (omega arith)) (blank 3 (omega arith)) (blank 4 (omega arith)) (blank 5 (omega arith)) (blank 6 (omega arith))
          (blank 7 (omega arith))

      on : (s k : ℕ) → s < 545 → k < 8 → (s ≡ function_slot (f + 1) → ⊥) → filled_to t f 0 0 s k ≡ filled_to t (f + 1) 0 0 s k
      on s k a b d = go (dec_lt s 512) (dec_lt s 544)
        where
          go : Dec (s < 512) → Dec (s < 544) → filled_to t f 0 0 s k ≡ filled_to t (f + 1) 0 0 s k
          go (yes x) y = of_node t f 0 0 s k x ∙ sym (of_node t (f + 1) 0 0 s k x)
          go (no x) (yes y) = of_function t f 0 0 s k (omega arith) y
              ∙ up_to_on (λ f. function_field t f k) f (in_slot 32 (s - 512))
              (λ e. let q = number_slot 32 (s - 512) (f + 1) (omega arith) e in d (omega arith))
              ∙ sym (of_function t (f + 1) 0 0 s k (omega arith) y)
          go (no x) (no y) = of_table t f 0 0 s k (omega arith) ∙ sym (of_table t (f + 1) 0 0 s k (omega arith))

-- a node more: its record, or its function and parent
module _ (t cells : List ℕ) (F n m j : ℕ) (low : 1 ≤ j) (high : j ≤ 512) (h : Filled t F n m cells) where
  -- j is the node whose slot this is
  own_node : (n m k : ℕ) → filled_to t F n m (node_slot j) k ≡ up_to (pick (ltb k 6) n m) (λ n. node_field t n k) j
  own_node n m k = of_node t F n m (node_slot j) k (omega arith)
      ∙ ap (λ i. up_to (pick (ltb k 6) n m) (λ n. node_field t n k) i) (slot_number 512 j low high)

  -- what is filled already
  pub filled_at : (k : ℕ) → k < 8 → j ≤ pick (ltb k 6) n m → cell_at cells (node_slot j) k ≡ node_field t j k
  filled_at k b i = h.each (node_slot j) k (omega arith) b ∙ own_node n m k ∙ up_to_in (λ n. node_field t n k) (pick (ltb k 6) n m) j i

  -- and what isn't
  filled_blank : (k : ℕ) → k < 8 → pick (ltb k 6) n m < j → cell_at cells (node_slot j) k ≡ 0
  filled_blank k b i = h.each (node_slot j) k (omega arith) b ∙ own_node n m k ∙ up_to_past (λ n. node_field t n k) (pick (ltb k 6) n m) j i

  node_on : (n' m' : ℕ) → ((k : ℕ) (i : ℕ) → (i ≡ j → ⊥) → up_to (pick (ltb k 6) n m) (λ n. node_field t n k) i
      ≡ up_to (pick (ltb k 6) n' m') (λ n. node_field t n k) i)
      → (s k : ℕ) → s < 545 → k < 8 → (s ≡ node_slot j → ⊥) → filled_to t F n m s k ≡ filled_to t F n' m' s k
  node_on n' m' on s k a b d = go (dec_lt s 512) (dec_lt s 544)
    where
      go : Dec (s < 512) → Dec (s < 544) → filled_to t F n m s k ≡ filled_to t F n' m' s k
      go (yes x) y = of_node t F n m s k x ∙ on k (in_slot 512 s) (λ e. d (number_slot 512 s j x e)) ∙ sym (of_node t F n' m' s k x)
      go (no x) (yes y) = of_function t F n m s k (omega arith) y ∙ sym (of_function t F n' m' s k (omega arith) y)
      go (no x) (no y) = of_table t F n m s k (omega arith) ∙ sym (of_table t F n' m' s k (omega arith))

-- by which of its numbers are filled
by_part : (P : ℕ → Type 0) (k n m : ℕ) → P n → P m → P (pick (ltb k 6) n m)
by_part P k n m a b = go (ltb k 6)
  where
    go : (x : Bool) → P (pick x n m)
    go true = a
    go false = b

pub filled_node : (t cells : List ℕ) (F n : ℕ) → n < 512 → Filled t F n 0 cells → kind t (n + 1) < 256
    → (cells' : List ℕ) → cells' ≡ put_numbers 5 (node_slot (n + 1)) (node_number t (n + 1)) cells → Filled t F (n + 1) 0 cells'
unfolding cell_at
filled_node t cells F n l h small cells' e = subst (Filled t F (n + 1) 0) (sym e)
    (filled_row t cells _ F n 0 F (n + 1) 0 (node_slot (n + 1)) W h row (λ k b. fits k b ∙ sym (full k))
    (node_on t cells F n 0 (n + 1) (omega arith) (omega arith) h (n + 1) 0 on))
  where
    W : ℕ → ℕ
    W = over 5 (node_slot (n + 1)) (node_number t (n + 1)) cells

    row : Row (node_slot (n + 1)) W cells (put_numbers 5 (node_slot (n + 1)) (node_number t (n + 1)) cells)
    row = row_numbers 5 (node_slot (n + 1)) (node_number t (n + 1)) cells h.size (omega arith) (omega arith)

    -- its own slot: the record, and nothing yet of function and parent
    own : ℕ → ℕ
    own k = pick (ltb k 6) (node_field t (n + 1) k) 0

    full : (k : ℕ) → filled_to t F (n + 1) 0 (node_slot (n + 1)) k ≡ own k
    full k = own_node t cells F n 0 (n + 1) (omega arith) (omega arith) h (n + 1) 0 k ∙ go (ltb k 6)
      where
        go : (x : Bool) → up_to (pick x (n + 1) 0) (λ n. node_field t n k) (n + 1) ≡ pick x (node_field t (n + 1) k) 0
        go true = up_to_in (λ n. node_field t n k) (n + 1) (n + 1) (omega arith)
        go false = up_to_past (λ n. node_field t n k) 0 (n + 1) (omega arith)

    blank : (k : ℕ) → k < 8 → pick (ltb k 6) n 0 ≤ n → cell_at cells (node_slot (n + 1)) k ≡ 0
    blank k b i = filled_blank t cells F n 0 (n + 1) (omega arith) (omega arith) h k b (omega arith)

    told : (k : ℕ) → k < 6 → field_of (node_number t (n + 1)) k ≡ node_field t (n + 1) k
    told = record_fields t (n + 1) small

    fits : (k : ℕ) → k < 8 → field_of W k ≡ own k
    fits = by_eight (λ k. field_of W k ≡ own k) (told 0 (omega arith)) (told 1 (omega arith)) (told 2 (omega arith)) (told 3 (omega arith))
        (told 4 (omega arith)) (told 5 (omega arith)) (blank 6 (omega arith) (omega arith)) (blank 7 (omega arith) (omega arith))

    on : (k i : ℕ) → (i ≡ n + 1 → ⊥) → up_to (pick (ltb k 6) n 0) (λ n. node_field t n k) i
        ≡ up_to (pick (ltb k 6) (n + 1) 0) (λ n. node_field t n k) i
    on k i d = go (ltb k 6)
      where
        go : (x : Bool) → up_to (pick x n 0) (λ n. node_field t n k) i ≡ up_to (pick x (n + 1) 0) (λ n. node_field t n k) i
        go true = up_to_on (λ n. node_field t n k) n i d
        go false = refl

-- and its function and parent
pub filled_kin : (t cells : List ℕ) (F N n x y : ℕ) → n < 512 → n + 1 ≤ N → Filled t F N n cells
    → x ≡ owner t (n + 1) → y ≡ parent t (n + 1) → x < 64 → Filled t F N (n + 1) (put_number cells (node_slot (n + 1)) 5 (x + 64 * y))
unfolding cell_at
filled_kin t cells F N n x y l i h ex ey small =
    filled_row t cells _ F N n F N (n + 1) (node_slot (n + 1)) W h row (λ k b. fits k b ∙ sym (full k))
    (node_on t cells F N n (n + 1) (omega arith) (omega arith) h N (n + 1) on)
  where
    W : ℕ → ℕ
    W k = pick (eqb k 5) (x + 64 * y) (number_at cells (node_slot (n + 1)) k)

    row : Row (node_slot (n + 1)) W cells (put_number cells (node_slot (n + 1)) 5 (x + 64 * y))
    row =
        let s = node_slot (n + 1) in
        row_put s _ cells _ h.size (omega arith) (row_start s cells) 5 (x + 64 * y) (omega arith)

    full : (k : ℕ) → filled_to t F N (n + 1) (node_slot (n + 1)) k ≡ node_field t (n + 1) k
    full k = own_node t cells F N n (n + 1) (omega arith) (omega arith) h N (n + 1) k
        ∙ up_to_in (λ n. node_field t n k) _ (n + 1) (by_part (λ m. n + 1 ≤ m) k N (n + 1) i (omega arith))

    old : (k : ℕ) → k < 8 → n + 1 ≤ pick (ltb k 6) N n → cell_at cells (node_slot (n + 1)) k ≡ node_field t (n + 1) k
    old = filled_at t cells F N n (n + 1) (omega arith) (omega arith) h

    fits : (k : ℕ) → k < 8 → field_of W k ≡ node_field t (n + 1) k
    fits = by_eight (λ k. field_of W k ≡ node_field t (n + 1) k) (old 0 (omega arith) i) (old 1 (omega arith) i) (old 2 (omega arith) i)
        (old 3 (omega arith) i) (old 4 (omega arith) i) (old 5 (omega arith) i) (omega arith) (omega arith)

    on : (k j : ℕ) → (j ≡ n + 1 → ⊥) → up_to (pick (ltb k 6) N n) (λ n. node_field t n k) j
        ≡ up_to (pick (ltb k 6) N (n + 1)) (λ n. node_field t n k) j
    on k j d = go (ltb k 6)
      where
        go : (x : Bool) → up_to (pick x N n) (λ n. node_field t n k) j ≡ up_to (pick x N (n + 1)) (λ n. node_field t n k) j
        go true = refl
        go false = up_to_on (λ n. node_field t n k) n j d

-- what is read of an array that is filled so far
pub function_filled : (t cells : List ℕ) (F n m : ℕ) → Filled t F n m cells → (f k : ℕ) → 1 ≤ f → f ≤ F → f ≤ 32 → k < 8
    → cell_at cells (function_slot f) k ≡ function_field t f k
function_filled t cells F n m h f k low high small b =
    let less : function_slot f - 512 ≡ f % 32 = omega arith in
    h.each (function_slot f) k (omega arith) b ∙ of_function t F n m (function_slot f) k (omega arith) (omega arith)
    ∙ ap (λ j. up_to F (λ f. function_field t f k) j) (ap (in_slot 32) less ∙ slot_number 32 f low small)
    ∙ up_to_in (λ f. function_field t f k) F f high

module _ (t cells : List ℕ) (fr : Framed t) where
  functions_filled : (n m : ℕ) → Filled t (functions t) n m cells → (f k : ℕ) → IsFunction t f → k < 8
      → cell_at cells (function_slot f) k ≡ function_field t f k
  functions_filled n m h f k i b =
      function_filled t cells (functions t) n m h f k i.0 i.1 (omega (arith, i.1, fr.f_high)) b

  pub sizes_filled : (f n m : ℕ) → Filled t f n m cells → (k : ℕ) → k < 2 → cell_at cells table_slot (2 * k) ≡ table_field t (2 * k)
  sizes_filled f n m h k b = h.each table_slot (2 * k) (omega arith) (omega arith) ∙ of_table t f n m table_slot (2 * k) (omega arith)

  pub raw : (m : ℕ) → Filled t (functions t) (nodes t) m cells → Raw t cells
  raw m h = record {
    size = h.size;
    node = λ n k i b. filled_at t cells (functions t) (nodes t) m n i.0 (omega (arith, i.1, fr.n_high)) h k (omega arith)
        (rw (lt-ltb k 6 b) i.1);
    function = λ f k i b. functions_filled (nodes t) m h f k i (omega arith);
    own = λ k b. sizes_filled (functions t) (nodes t) m h k b;
  }

  pub all_read : Filled t (functions t) (nodes t) (nodes t) cells → Decoded t cells
  all_read h = record {
    size = h.size;
    node = λ n k i b. filled_at t cells (functions t) (nodes t) (nodes t) n i.0 (omega (arith, i.1, fr.n_high)) h k b
        (by_part (λ m. n ≤ m) k (nodes t) (nodes t) i.1 i.1);
    function = λ f k i b. functions_filled (nodes t) (nodes t) h f k i (omega arith);
    own = λ k b. sizes_filled (functions t) (nodes t) (nodes t) h k b;
  }
