-- what is read of the cells of a table that the check takes
use Prim.Native.Nat.{ℕ, ◌+◌, ◌*◌, ◌<◌}
use mathlib.Core.Path.{◌≡◌, refl, ◌∙◌}
use mathlib.Core.List.{List}
use native.Mathlib.Omega.{arith}
use Rattle.table.specs.Bytes.{functions, nodes, four_at, root, params, bits, width, word}
use Rattle.table.specs.Decoded.{cell_at, node_slot, function_slot, table_slot, low, high, node_field}
use Rattle.table.specs.Working.{IsNode, IsFunction, Read}
use Rattle.table.proofs.CellLaws.{word_read, width_read}

-- a small word is its low half
pub low_all : (t : List ℕ) (n : ℕ) → word t n < 65536 → low t n ≡ word t n
low_all t n h = omega (arith, halves)
  where
    halves : word t n ≡ low t n + 65536 * high t n
    halves = unfold word four_at low high in refl

module _ (t cells : List ℕ) (rd : Read t cells) where
  -- field k of a node
  pub told : (n : ℕ) → IsNode t n → (k r : ℕ) → k < 8 → r ≡ cell_at cells (node_slot n) k → r ≡ node_field t n k
  told n i k r b e = e ∙ rd.told.node n k i b

  pub told_word : (n : ℕ) → IsNode t n → (r : ℕ)
      → r ≡ cell_at cells (node_slot n) 2 + 65536 * cell_at cells (node_slot n) 3 → r ≡ word t n
  told_word n i r e = e ∙ word_read t cells 8 (omega arith) rd.told n i

  -- a word that is a function's or a node's number
  pub told_low : (n : ℕ) → IsNode t n → word t n < 65536 → (r : ℕ) → r ≡ cell_at cells (node_slot n) 2 → r ≡ word t n
  told_low n i h r e = told n i 2 r (omega arith) e ∙ low_all t n h

  pub told_root : (f : ℕ) → IsFunction t f → (r : ℕ) → r ≡ cell_at cells (function_slot f) 2 → r ≡ root t f
  told_root f i r e = e ∙ rd.told.function f 2 i (omega arith)

  pub told_params : (f : ℕ) → IsFunction t f → (r : ℕ) → r ≡ cell_at cells (function_slot f) 0 → r ≡ params t f
  told_params f i r e = e ∙ rd.told.function f 0 i (omega arith)

  pub told_width : (f : ℕ) → IsFunction t f → (r : ℕ) → r ≡ bits (cell_at cells (function_slot f) 1) → r ≡ width t f
  told_width f i r e = e ∙ width_read t cells 8 rd.told f i

  pub told_main : (r : ℕ) → r ≡ cell_at cells table_slot 0 → r ≡ functions t
  told_main r e = e ∙ rd.told.own 0 (omega arith)

  pub told_last : (r : ℕ) → r ≡ cell_at cells table_slot 2 → r ≡ nodes t
  told_last r e = e ∙ rd.told.own 1 (omega arith)
