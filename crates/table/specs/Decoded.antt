-- a table decoded: 545 slots of 6 numbers, into which its records are put, and what is read of a slot, field by field; what no record is
-- put into keeps its content
use Rattle.std.specs.Prelude.{ℕ, zero, suc, ◌+◌, ◌-◌, ◌*◌, ◌/◌, ◌%◌, List, eqb, ltb, get_or, set}
use Rattle.table.specs.Pick.{pick}
use Rattle.table.specs.Bytes.{two_at, functions, nodes, function_at, node_at, params, width_byte, root, kind, extra, first, next}
use Rattle.table.specs.Naming.{owner, parent}
use Rattle.table.specs.Check.{if_accepted, check_of}

-- number k of slot s, as it is stored
unfoldable pub number_at : List ℕ → ℕ → ℕ → ℕ
number_at cells s k = get_or cells (6 * s + k) 0

-- it becomes x
unfoldable pub put_number : List ℕ → ℕ → ℕ → ℕ → List ℕ
put_number cells s k x = set cells (6 * s + k) x

-- field k of a slot with the numbers g: number 0 holds two of them, 256 apart, number 5 the last two, 64 apart, the others one each
abbrev pub field_of : (ℕ → ℕ) → ℕ → ℕ
field_of g k =
    pick (eqb k 0) (g 0 % 256)
    (pick (eqb k 1) (g 0 / 256)
    (pick (eqb k 6) (g 5 % 64)
    (pick (eqb k 7) (g 5 / 64)
    (g (k - 1)))))

-- field k of slot s, as it is read
unfoldable pub cell_at : List ℕ → ℕ → ℕ → ℕ
cell_at cells s k = field_of (number_at cells s) k

-- the slots of node n, 1 to 512, and of function f, 1 to 32; the last slot is the table's own
abbrev pub node_slot : ℕ → ℕ
node_slot n = n % 512

abbrev pub function_slot : ℕ → ℕ
function_slot f = 512 + f % 32

abbrev pub table_slot : ℕ
table_slot = 544

-- the halves of a node's word
unfoldable pub low : List ℕ → ℕ → ℕ
low t n = two_at t (node_at t n + 2)

unfoldable pub high : List ℕ → ℕ → ℕ
high t n = two_at t (node_at t n + 2 + 2)

-- a node's fields: kind, extra, the word's low and high half, first child, next sibling, function, parent
abbrev pub node_field : List ℕ → ℕ → ℕ → ℕ
node_field t n k =
    pick (eqb k 0) (kind t n)
    (pick (eqb k 1) (extra t n)
    (pick (eqb k 2) (low t n)
    (pick (eqb k 3) (high t n)
    (pick (eqb k 4) (first t n)
    (pick (eqb k 5) (next t n)
    (pick (eqb k 6) (owner t n)
    (parent t n)))))))

-- a function's: parameter count, width byte, root
abbrev pub function_field : List ℕ → ℕ → ℕ → ℕ
function_field t f k = pick (eqb k 0) (params t f) (pick (eqb k 1) (width_byte t f) (pick (eqb k 2) (root t f) 0))

-- the table's: F and, in field 2, N, which doesn't fit a byte
abbrev pub table_field : List ℕ → ℕ → ℕ
table_field t k = pick (eqb k 0) (functions t) (pick (eqb k 2) (nodes t) 0)

-- the numbers that are put: of a node its record's ten bytes two by two, then function and parent in one
abbrev pub node_number : List ℕ → ℕ → ℕ → ℕ
node_number t n k = pick (ltb k 5) (two_at t (node_at t n + 2 * k)) (owner t n + 64 * parent t n)

-- of a function its record's four bytes two by two
abbrev pub function_number : List ℕ → ℕ → ℕ → ℕ
function_number t f k = two_at t (function_at f + 2 * k)

-- of the table F and N
abbrev pub table_number : List ℕ → ℕ → ℕ
table_number t k = pick (eqb k 0) (functions t) (nodes t)

-- the first k of the numbers g put into slot s
unfoldable pub put_numbers : (k : ℕ) → (s : ℕ) → (ℕ → ℕ) → List ℕ → List ℕ
put_numbers zero s g cells = cells
put_numbers (suc k) s g cells = put_number (put_numbers k s g cells) s k (g k)

-- the records of the functions up to k, of the nodes up to k, each in its slot
unfoldable pub functions_put : List ℕ → ℕ → List ℕ → List ℕ
functions_put t zero cells = cells
functions_put t (suc k) cells = put_numbers 2 (function_slot (suc k)) (function_number t (suc k)) (functions_put t k cells)

unfoldable pub nodes_put : List ℕ → ℕ → List ℕ → List ℕ
nodes_put t zero cells = cells
nodes_put t (suc k) cells = put_numbers 6 (node_slot (suc k)) (node_number t (suc k)) (nodes_put t k cells)

unfoldable pub decoded_into : List ℕ → List ℕ → List ℕ
decoded_into t cells = nodes_put t (nodes t) (functions_put t (functions t) (put_numbers 2 table_slot (table_number t) cells))

-- cells that are lent to the survey: those of a refused table stay as they are
unfoldable pub surveyed : List ℕ → List ℕ → List ℕ
surveyed t cells = if_accepted (check_of t) (decoded_into t cells) cells
