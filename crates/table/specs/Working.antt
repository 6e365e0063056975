-- what the parts of the check ask of each other: the sizes, the links, and the arrays filled in ascending order of the nodes
use Rattle.std.specs.Prelude.{ℕ, ◌+◌, ◌-◌, ◌*◌, ◌/◌, ◌%◌, ◌≤◌, ◌<◌, Bool, true, false, ◌&&◌, ◌||◌, ◌≡◌, List, T, eqb, ltb, leb, length}
use Rattle.std.specs.Prelude.{get_or}
use Rattle.std.specs.Prelude.{Option, MatchOption, Result, Ok, Err, ⊤}
use Rattle.table.specs.declared.Node.{Node}
use Rattle.table.specs.declared.Design.{Design}
use Rattle.table.specs.declared.refusals.Reason.{Reason}
use Rattle.table.specs.declared.refusals.Refusal.{Refusal}
use Rattle.table.specs.Refusals.{number_of}
use Rattle.table.specs.Survey.{verdict_of}
use Rattle.table.specs.Pick.{pick}
use Rattle.table.specs.Bytes.{functions, nodes, root, kind, extra, word}
use Rattle.table.specs.Find.{one, total, lowest}
use Rattle.table.specs.Naming.{mentions, root_of, namer, owner, parent, tail}
use Rattle.table.specs.Decoded.{cell_at, node_slot, function_slot, table_slot}
use Rattle.table.specs.Decoded.{node_field, function_field, table_field}
use Rattle.table.specs.Check.{Verdict, accepted, refused, stage, check_of, sizes, whole, linked}
use Rattle.table.specs.Check.{formed, callee_fits, counted, scoped, tailed, const_fits}

-- n is a node's number, f a function's
abbrev pub IsNode : List ℕ → ℕ → Type 0
IsNode t n = (1 ≤ n) × (n ≤ nodes t)

abbrev pub IsFunction : List ℕ → ℕ → Type 0
IsFunction t f = (1 ≤ f) × (f ≤ functions t)

-- the check takes the table
abbrev pub Taken : List ℕ → Type 0
Taken t = check_of t ≡ accepted (functions t) (nodes t)

-- what the numbers 1 to 3 ensure: every record can be read
pub record Framed (t : List ℕ) : Type 0 where
  pub f_low : 1 ≤ functions t
  pub f_high : functions t ≤ 32
  pub n_low : 1 ≤ nodes t
  pub n_high : nodes t ≤ 512
  pub size : length t ≡ 4 + 4 * functions t + 10 * nodes t

-- node n of a table whose node records begin at `base`
pub record At (t : List ℕ) (base n : ℕ) : Type 0 where
  pub framed : Framed t
  pub start : base ≡ 4 + 4 * functions t
  pub low : 1 ≤ n
  pub high : n ≤ nodes t

-- of a table's cells the first `top` fields of each node are filled, all of each function, and of the table's own F and N, fields 0 and 2
pub record CellsTo (t cells : List ℕ) (top : ℕ) : Type 0 where
  pub size : length cells ≡ 3270
  pub node : (n k : ℕ) → IsNode t n → k < top → cell_at cells (node_slot n) k ≡ node_field t n k
  pub function : (f k : ℕ) → IsFunction t f → k < 3 → cell_at cells (function_slot f) k ≡ function_field t f k
  pub own : (k : ℕ) → k < 2 → cell_at cells table_slot (2 * k) ≡ table_field t (2 * k)

-- decoded from the bytes alone: no function and no parent yet
abbrev pub Raw : List ℕ → List ℕ → Type 0
Raw t cells = CellsTo t cells 6

abbrev pub Decoded : List ℕ → List ℕ → Type 0
Decoded t cells = CellsTo t cells 8

-- the number from 1 to m whose slot is s: m itself has slot 0
abbrev pub in_slot : ℕ → ℕ → ℕ
in_slot m s = pick (eqb s 0) m s

-- of a number above the last: 0
abbrev pub up_to : ℕ → (ℕ → ℕ) → ℕ → ℕ
up_to m g n = pick (leb n m) (g n) 0

-- how far an array of zeros is filled: functions up to f, of the nodes up to n what their records say, up to m function and parent
abbrev pub filled_to : List ℕ → (f n m s k : ℕ) → ℕ
filled_to t f n m s k =
    pick (ltb s 512) (up_to (pick (ltb k 6) n m) (λ n. node_field t n k) (in_slot 512 s))
    (pick (ltb s 544) (up_to f (λ f. function_field t f k) (in_slot 32 (s - 512)))
    (table_field t k))

pub record Filled (t : List ℕ) (f n m : ℕ) (cells : List ℕ) : Type 0 where
  pub size : length cells ≡ 3270
  pub each : (s k : ℕ) → s < 545 → k < 8 → cell_at cells s k ≡ filled_to t f n m s k

-- the first of the numbers 1 to 3 that is met, 0 if none is
unfoldable pub frame_number : List ℕ → ℕ
frame_number t = pick (leb 4 (length t)) (pick (sizes t) (pick (whole t) 0 3) 2) 1

-- 0 where the sizes are right
abbrev pub first_number : Result ⊤ Reason → ℕ
first_number (Ok _) = 0
first_number (Err r) = number_of r

-- what the numbers 1 to 4 ensure: owner, parent and children can be read
pub record Linked (t : List ℕ) : Type 0 where
  pub roots : (f : ℕ) → IsFunction t f → IsNode t (root t f)
  pub links : (n : ℕ) → IsNode t n → T (linked t n)

-- a number above 512 is no node's: its place is 0, which is no node's either
abbrev pub slot_of : ℕ → ℕ
slot_of v = pick (leb v 512) v 0

-- the place of a node that node n names: 0 where it is not above n
abbrev pub ahead_of : ℕ → ℕ → ℕ
ahead_of n v = pick (ltb n v) (slot_of v) 0

-- by node: how often the roots name it, and the function whose root it is
pub record Mentioned (t m : List ℕ) : Type 0 where
  pub sized : length m ≡ 513
  pub few : (n : ℕ) → get_or m n 0 ≤ functions t
  pub counts : (n : ℕ) → IsNode t n → get_or m n 0 ≡ total (λ f. one (eqb (root t f) n)) (functions t)

abbrev pub Tops : List ℕ → List ℕ → Type 0
Tops t r = (n : ℕ) → IsNode t n → get_or r n 0 ≡ root_of t n

pub record Rooted (t m r : List ℕ) : Type 0 where
  pub mentioned : Mentioned t m
  pub tops : Tops t r

-- a node that is the lowest to fail a test, if one does
abbrev pub IsLowest : Option Node → ℕ → Type 0
IsLowest r n = MatchOption r (n ≡ 0) (λ place. (n ≡ place.0) × (1 ≤ place.0))

-- 4 at a node, by its links, the number of its mentions and the function whose root it is
abbrev pub linked_by : (n first next mentions root last : ℕ) → Bool
linked_by n a b k r N =
    (eqb a 0 || (ltb n a && leb a N)) && (eqb b 0 || (ltb n b && leb b N)) && eqb k 1 && (eqb r 0 || eqb b 0)

-- how often anything names it, and the node that does
abbrev pub Counted : List ℕ → List ℕ → Type 0
Counted t m = (n : ℕ) → IsNode t n → get_or m n 0 ≡ mentions t n

abbrev pub Holders : List ℕ → List ℕ → Type 0
Holders t l = (n : ℕ) → IsNode t n → get_or l n 0 ≡ namer t n

pub record Named (t m l : List ℕ) : Type 0 where
  pub counts : Counted t m
  pub holders : Holders t l

-- tail positions, by node
abbrev pub Tails : List ℕ → List Bool → Type 0
Tails t l = (n : ℕ) → IsNode t n → get_or l n false ≡ tail t n

-- node n of a table that passed 1 to 4 and is decoded
pub record Within (t cells : List ℕ) (n : ℕ) : Type 0 where
  pub framed : Framed t
  pub links : Linked t
  pub read : Decoded t cells
  pub node : IsNode t n

-- and what was read of it
pub record NodeAt (t cells : List ℕ) (n k e w : ℕ) : Type 0 where
  pub place : Within t cells n
  pub kinded : k ≡ kind t n
  pub extras : e ≡ extra t n
  pub worded : w ≡ word t n

-- a number that nodes are refused for, and the lowest node that meets it
pub record Fault : Type 0 where
  pub number : ℕ
  pub place : ℕ

-- the lower number; of one number the node that came first
abbrev pub better : Fault → ℕ → ℕ → Fault
better b k n = pick (ltb k b.number) (record { number = k; place = n }) b

-- past the last number that a node can be refused for: it meets none
abbrev pub no_fault : ℕ
no_fault = 26

abbrev pub met_number : Result ⊤ Reason → ℕ
met_number (Ok _) = no_fault
met_number (Err r) = number_of r

abbrev pub fault_of : Result ⊤ Refusal → Fault
fault_of (Ok _) = record { number = no_fault; place = 0 }
fault_of (Err r) = record { number = number_of r.reason; place = r.place.0 }

-- the tests of the numbers 5 to 9, then 25, at a node; there is none between
unfoldable pub test : List ℕ → ℕ → ℕ → Bool
test t k n =
    pick (eqb k 5) (formed t n)
    (pick (eqb k 6) (callee_fits t n)
    (pick (eqb k 7) (counted t n)
    (pick (eqb k 8) (scoped t n)
    (pick (eqb k 9) (tailed t n)
    (pick (eqb k 25) (const_fits t n)
    true)))))

-- the first number that a node meets
unfoldable pub fault_at : List ℕ → ℕ → ℕ
fault_at t n =
    pick (formed t n) (pick (callee_fits t n) (pick (counted t n) (pick (scoped t n) (pick (tailed t n) (pick (const_fits t n) no_fault 25)
    9) 8) 7) 6) 5

-- the check from the nodes' part of 5 on
unfoldable pub check_nodes : List ℕ → Verdict
check_nodes t =
    stage 5 true (lowest (formed t) (nodes t)) λ _.
    stage 6 true (lowest (callee_fits t) (nodes t)) λ _.
    stage 7 true (lowest (counted t) (nodes t)) λ _.
    stage 8 true (lowest (scoped t) (nodes t)) λ _.
    stage 9 true (lowest (tailed t) (nodes t)) λ _.
    stage 25 true (lowest (const_fits t) (nodes t)) λ _.
    accepted (functions t) (nodes t)

abbrev pub fault_verdict : List ℕ → Result ⊤ Refusal → Verdict
fault_verdict t (Ok _) = accepted (functions t) (nodes t)
fault_verdict t (Err r) = refused (number_of r.reason) r.place.0

-- of each node its function and parent in one number
pub record Kindred (t kin : List ℕ) : Type 0 where
  pub size : length kin ≡ 513
  pub owners : (n : ℕ) → IsNode t n → get_or kin n 0 % 64 ≡ owner t n
  pub parents : (n : ℕ) → IsNode t n → get_or kin n 0 / 64 % 1024 ≡ parent t n

-- the check's answer, and what it leaves where the table is accepted
pub record Settles (t : List ℕ) (r : Result Design Refusal) (kin : List ℕ) : Type 0 where
  pub told : verdict_of r ≡ check_of t
  pub kindred : Taken t → Kindred t kin

-- the cells of a table that the check takes
pub record Read (t cells : List ℕ) : Type 0 where
  pub taken : Taken t
  pub told : Decoded t cells
