-- the theorems on an accepted table and on operation bytes, for a reader; what is accepted is the promise of `check` (src/lib.rt)
use mathlib.Core.Path.{◌≡◌, sym}
use mathlib.Core.List.{List}
use Prim.Native.Nat.{ℕ, ◌≤◌, ◌<◌}
use lib.ListN.{length}
use Rattle.table.specs.Bytes.{functions, nodes, bits, width}
use Rattle.table.specs.Naming.{owner}
use Rattle.table.specs.Check.{check_of, accepted}
use Rattle.table.specs.Decoded.{cell_at, node_slot, function_slot, node_field, function_field, decoded_into}
use Rattle.table.specs.Expressions.{body_of, expr_at}
use Rattle.table.specs.OperationCounts.{CountsOfBytes}
use Rattle.table.specs.Well.{Laid, WidthsHold}
use Rattle.table.proofs.LaidOut as LaidOut
use Rattle.table.proofs.Widths as Widths
use Rattle.table.proofs.OperationCounts as OperationCounts
use Rattle.table.proofs.SurveyLaws.{taken_by, taken_small}
use Rattle.table.proofs.DecodedLaws.{decoded_read}
use Rattle.table.proofs.CellLaws.{width_read}

-- numbers apart, one owner, every callee below its caller or a self call in tail position, bounds in scope, at most eight arguments;
-- where each node's expression stands, and whose it is
pub laid : (t : List ℕ) (F N : ℕ) → check_of t ≡ accepted F N → Laid (functions t) (nodes t) (body_of t) (expr_at t) (owner t)
laid = LaidOut.laid

-- every function has 1 to 32 bits, which hold its constants
pub widths_hold : (t : List ℕ) (F N : ℕ) → check_of t ≡ accepted F N → WidthsHold (functions t) (body_of t) (width t)
widths_hold = Widths.widths_hold

-- of all 256 bytes the child counts are document 01's, and the check knows the same ones for operations
pub counts_of_bytes : CountsOfBytes
counts_of_bytes = OperationCounts.counts_of_bytes

-- what the survey puts into cells is read back, field by field
pub nodes_decoded : (t cells : List ℕ) (F N : ℕ) → check_of t ≡ accepted F N → length cells ≡ 3270 → (n k : ℕ) → 1 ≤ n → n ≤ nodes t → k < 8
    → cell_at (decoded_into t cells) (node_slot n) k ≡ node_field t n k
nodes_decoded t cells F N e z n k a b c = (decoded_read t cells (taken_small t (taken_by t F N (sym e)).0) z).node n k (a, b) c

pub functions_decoded : (t cells : List ℕ) (F N : ℕ) → check_of t ≡ accepted F N → length cells ≡ 3270 → (f k : ℕ) → 1 ≤ f → f ≤ functions t
    → k < 3 → cell_at (decoded_into t cells) (function_slot f) k ≡ function_field t f k
functions_decoded t cells F N e z f k a b c = (decoded_read t cells (taken_small t (taken_by t F N (sym e)).0) z).function f k (a, b) c

pub widths_decoded : (t cells : List ℕ) (F N : ℕ) → check_of t ≡ accepted F N → length cells ≡ 3270 → (f : ℕ) → 1 ≤ f → f ≤ functions t
    → bits (cell_at (decoded_into t cells) (function_slot f) 1) ≡ width t f
widths_decoded t cells F N e z f a b = width_read t _ 8 (decoded_read t cells (taken_small t (taken_by t F N (sym e)).0) z) f (a, b)
