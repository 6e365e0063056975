-- an array of cells into which a table was decoded: each record can be read from its slot
use Prim.Native.Nat.{ℕ, zero, suc, ◌+◌, ◌*◌, ◌≤◌, ◌<◌}
use mathlib.Core.Path.{◌≡◌, refl, subst, ◌∙◌}
use mathlib.Core.List.{List}
use native.Mathlib.Omega.{arith}
use native.Mathlib.Decide.{ℕ_discrete}
use native.Mathlib.Numerals.{add-one}
use lib.ListN.{length}
use Rattle.table.specs.Bytes.{functions, nodes, params, kind}
use Rattle.table.specs.Decoded.{field_of, cell_at, node_slot, function_slot, table_slot, node_field, function_field, table_field}
use Rattle.table.specs.Decoded.{node_number, function_number, table_number, put_numbers, functions_put, nodes_put, decoded_into}
use Rattle.table.specs.Working.{IsNode, IsFunction, Framed, Decoded}
use Rattle.table.proofs.CellLaws.{by_eight, Row, over, row_numbers, field_here, field_other, node_fields, function_fields}
use Rattle.table.proofs.Family.{owner_few}

-- one turn more
pub functions_more : (t : List ℕ) (f : ℕ) (cells : List ℕ)
    → functions_put t (f + 1) cells ≡ put_numbers 2 (function_slot (f + 1)) (function_number t (f + 1)) (functions_put t f cells)
unfolding functions_put
functions_more t f cells = rw add-one refl

pub nodes_more : (t : List ℕ) (n : ℕ) (cells : List ℕ)
    → nodes_put t (n + 1) cells ≡ put_numbers 6 (node_slot (n + 1)) (node_number t (n + 1)) (nodes_put t n cells)
unfolding nodes_put
nodes_more t n cells = rw add-one refl

next_number : (n : ℕ) → n + 1 ≡ suc n
next_number n = omega arith

-- what the records' bytes are to be, so that each number gives its fields back
pub record Small (t : List ℕ) : Type 0 where
  pub framed : Framed t
  pub kinds : (n : ℕ) → IsNode t n → kind t n < 256
  pub counts : (f : ℕ) → IsFunction t f → params t f < 256

-- what stands in the slots, functions up to f and nodes up to n
record Stand (t : List ℕ) (f n : ℕ) (cells : List ℕ) : Type 0 where
  size : length cells ≡ 3270
  own : (k : ℕ) → k < 2 → cell_at cells table_slot (2 * k) ≡ table_field t (2 * k)
  function : (g k : ℕ) → 1 ≤ g → g ≤ f → k < 3 → cell_at cells (function_slot g) k ≡ function_field t g k
  node : (m k : ℕ) → 1 ≤ m → m ≤ n → k < 8 → cell_at cells (node_slot m) k ≡ node_field t m k

module _ (t : List ℕ) (sm : Small t) where
  stand_table : (cells : List ℕ) → length cells ≡ 3270 → Stand t 0 0 (put_numbers 2 table_slot (table_number t) cells)
  stand_table cells z = record {
    size = row.size ∙ z;
    own = λ k b. field_here row (2 * k) (omega arith) ∙ each k b;
    function = λ g k a b c. absurd (omega arith);
    node = λ m k a b c. absurd (omega arith);
  }
    where
      row : Row table_slot (over 2 table_slot (table_number t) cells) cells (put_numbers 2 table_slot (table_number t) cells)
      row = row_numbers 2 table_slot (table_number t) cells z (omega arith) (omega arith)

      each : (k : ℕ) → k < 2 → field_of (over 2 table_slot (table_number t) cells) (2 * k) ≡ table_field t (2 * k)
      each zero b = let small = sm.framed.f_high in omega arith
      each (suc zero) b = refl
      each (suc (suc k)) b = absurd (omega arith)

  stand_function : (f : ℕ) (cells : List ℕ) → f < functions t → Stand t f 0 cells
      → Stand t (f + 1) 0 (put_numbers 2 (function_slot (f + 1)) (function_number t (f + 1)) cells)
  stand_function f cells l h = record {
    size = row.size ∙ h.size;
    own = λ k b. field_other row table_slot (2 * k) (λ e. omega arith) (omega arith) ∙ h.own k b;
    function = λ g k a b c. each g k a b c (ℕ_discrete g (f + 1));
    node = λ m k a b c. absurd (omega arith);
  }
    where
      few : functions t ≤ 32
      few = sm.framed.f_high

      told : (k : ℕ) → k < 3 → field_of (function_number t (f + 1)) k ≡ function_field t (f + 1) k
      told = function_fields t (f + 1) (sm.counts (f + 1) (omega arith, omega arith))

      row : Row (function_slot (f + 1)) (over 2 (function_slot (f + 1)) (function_number t (f + 1)) cells) cells
          (put_numbers 2 (function_slot (f + 1)) (function_number t (f + 1)) cells)
      row = row_numbers 2 (function_slot (f + 1)) (function_number t (f + 1)) cells h.size (omega arith) (omega arith)

      -- the first three fields are told by the two numbers
      put : (k : ℕ) → k < 3 → field_of (over 2 (function_slot (f + 1)) (function_number t (f + 1)) cells) k ≡ function_field t (f + 1) k
      put zero b = told 0 b
      put (suc zero) b = told 1 b
      put (suc (suc zero)) b = told 2 b
      put (suc (suc (suc k))) b = absurd (omega arith)

      each : (g k : ℕ) → 1 ≤ g → g ≤ f + 1 → k < 3 → (d : Dec (g ≡ f + 1))
          → cell_at (put_numbers 2 (function_slot (f + 1)) (function_number t (f + 1)) cells) (function_slot g) k ≡ function_field t g k
      each g k a b c (yes e) = rw e (field_here row k (omega arith) ∙ put k c)
      each g k a b c (no e) = field_other row (function_slot g) k (λ q. e (omega arith)) (omega arith) ∙ h.function g k a (omega arith) c

  stand_node : (F n : ℕ) (cells : List ℕ) → F ≤ functions t → n < nodes t → Stand t F n cells
      → Stand t F (n + 1) (put_numbers 6 (node_slot (n + 1)) (node_number t (n + 1)) cells)
  stand_node F n cells i l h = record {
    size = row.size ∙ h.size;
    own = λ k b. field_other row table_slot (2 * k) (λ e. omega arith) (omega arith) ∙ h.own k b;
    function = λ g k a b c. field_other row (function_slot g) k (λ e. omega arith) (omega arith) ∙ h.function g k a b c;
    node = λ m k a b c. each m k a b c (ℕ_discrete m (n + 1));
  }
    where
      few : functions t ≤ 32
      few = sm.framed.f_high

      many : nodes t ≤ 512
      many = sm.framed.n_high

      told : (k : ℕ) → k < 8 → field_of (node_number t (n + 1)) k ≡ node_field t (n + 1) k
      told = node_fields t (n + 1) (sm.kinds (n + 1) (omega arith, omega arith)) (omega (arith, owner_few t (n + 1)))

      row : Row (node_slot (n + 1)) (over 6 (node_slot (n + 1)) (node_number t (n + 1)) cells) cells
          (put_numbers 6 (node_slot (n + 1)) (node_number t (n + 1)) cells)
      row = row_numbers 6 (node_slot (n + 1)) (node_number t (n + 1)) cells h.size (omega arith) (omega arith)

      -- all fields are told by the six numbers
      put : (k : ℕ) → k < 8 → field_of (over 6 (node_slot (n + 1)) (node_number t (n + 1)) cells) k ≡ field_of (node_number t (n + 1)) k
      put = by_eight (λ k. field_of (over 6 (node_slot (n + 1)) (node_number t (n + 1)) cells) k ≡ field_of (node_number t (n + 1)) k)
          refl refl refl refl refl refl refl refl

      each : (m k : ℕ) → 1 ≤ m → m ≤ n + 1 → k < 8 → (d : Dec (m ≡ n + 1))
          → cell_at (put_numbers 6 (node_slot (n + 1)) (node_number t (n + 1)) cells) (node_slot m) k ≡ node_field t m k
      each m k a b c (yes e) = rw e (field_here row k c ∙ put k c ∙ told k c)
      each m k a b c (no e) = field_other row (node_slot m) k (λ q. e (omega arith)) c ∙ h.node m k a (omega arith) c

  all_functions : (f : ℕ) (cells : List ℕ) → f ≤ functions t → Stand t 0 0 cells → Stand t f 0 (functions_put t f cells)
  unfolding functions_put
  all_functions zero cells l h = h
  all_functions (suc f) cells l h =
      subst (λ g. Stand t g 0 (put_numbers 2 (function_slot g) (function_number t g) (functions_put t f cells))) (next_number f)
      (stand_function f _ (omega arith) (all_functions f cells (omega arith) h))

  all_nodes : (F n : ℕ) (cells : List ℕ) → F ≤ functions t → n ≤ nodes t → Stand t F 0 cells → Stand t F n (nodes_put t n cells)
  unfolding nodes_put
  all_nodes F zero cells i l h = h
  all_nodes F (suc n) cells i l h =
      subst (λ m. Stand t F m (put_numbers 6 (node_slot m) (node_number t m) (nodes_put t n cells))) (next_number n)
      (stand_node F n _ i (omega arith) (all_nodes F n cells i (omega arith) h))

pub decoded_read : (t cells : List ℕ) → Small t → length cells ≡ 3270 → Decoded t (decoded_into t cells)
unfolding decoded_into
decoded_read t cells sm z = record {
  size = all.size;
  node = λ n k i b. all.node n k i.0 i.1 b;
  function = λ f k i b. all.function f k i.0 i.1 b;
  own = all.own;
}
  where
    all : Stand t (functions t) (nodes t) (nodes_put t (nodes t) (functions_put t (functions t)
        (put_numbers 2 table_slot (table_number t) cells)))
    all = all_nodes t sm (functions t) (nodes t) _ (omega arith) (omega arith)
        (all_functions t sm (functions t) _ (omega arith) (stand_table t sm cells z))
