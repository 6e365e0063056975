-- the sets of a run as the code packs them: eight words to a set, and rows of them for the members and call sites of each function
use Rattle.std.specs.Prelude.{◌≡◌, ℕ, suc, ◌+◌, ◌*◌, ◌<◌, ◌≤◌, Bool, true, false, ◌&&◌, ◌||◌, List, length, ◌==◌, ◌≢◌, nat_lt, Option}
use Rattle.std.specs.Prelude.{Some, None}
use Rattle.table.specs.Pick.{pick, Range}
use Rattle.table.specs.declared.Node.{Node}
use Rattle.table.specs.Bytes.{nodes}
use Rattle.table.specs.Naming.{owner, parent}
use Rattle.table.specs.Expressions.{expr_at, body_of}
use Rattle.list.specs.Arbiters.{Test}
use Rattle.list.specs.Working.{bit_at, packed, Bit}
use Rattle.rules.specs.State.{State512}
use Rattle.rules.specs.Step.{mine}
use Rattle.rules.specs.Play.{calls}
use Rattle.rules.specs.Sets.{Sets, Exact, Stays, Ending, Renewing, rereads, UpdatedOf}
use Rattle.circuit.specs.declared.plan.Plan.{Plan}
use Rattle.circuit.specs.declared.sets.Sets.{Sets as SetsCode}
use Rattle.circuit.specs.Working.{planned}

-- a set of eight words has the members that f says
pub record Packs (f : Test) (set : List ℕ) : Type 0 where
  pub size : length set ≡ 8
  pub bits : (m : ℕ) → Bit m → packed set m ≡ f m

-- bit t is the lowest that is set of the k bits of x
pub record LowBit (k x t : ℕ) : Type 0 where
  pub inside : t < k
  pub here : bit_at x t ≡ true
  pub below : (j : ℕ) → j < t → bit_at x j ≡ false

-- four packed sets, read by nodes
abbrev pub sets_as : (armed waiting inside held : List ℕ) → Sets
sets_as a w i h = record { armed = packed a; waiting = packed w; inside = packed i; held = packed h }

abbrev pub unpacked : SetsCode → Sets
unpacked x = sets_as x.armed x.waiting x.inside x.held

-- a node by its number, where 0 is none
abbrev pub Names : Option Node → ℕ → Type 0
Names None k = k ≡ 0
Names (Some n) k = (n.0 ≡ k) × (1 ≤ n.0)

-- a call of g, among the nodes up to N
abbrev pub site : (t : List ℕ) → (N g n : ℕ) → Bool
site t N g n = nat_lt n (suc N) && calls (expr_at t n) g

-- the rows of a table, as far as node N: set g has the nodes of function g, set 32 + g its call sites
pub record RowedTo (t : List ℕ) (N : ℕ) (rows : List ℕ) : Type 0 where
  pub size : length rows ≡ 520
  pub members : (g m : ℕ) → g ≤ 32 → Bit m → packed rows (512 * g + m) ≡ mine N (owner t) g m
  pub sites : (g m : ℕ) → 1 ≤ g → g ≤ 32 → Bit m → packed rows (512 * (32 + g) + m) ≡ site t N g m

abbrev pub Rowed : (t rows : List ℕ) → Type 0
Rowed t rows = RowedTo t (nodes t) rows

-- no number past N is taken for a node that has a step
abbrev pub Past : ℕ → Sets → Type 0
Past N x = (m : ℕ) → N < m → m ≤ 512 → (x.armed m ≡ false) × (x.waiting m ≡ false)

-- the sets are those of the state s
pub record Tracks (t : List ℕ) (s : State512) (x : Sets) : Type 0 where
  pub exact : Exact t s x
  pub past : Past (nodes t) x

-- node n is put into three sets or taken out of them, and the other nodes stay
pub record Places (n : ℕ) (a w i : Bool) (x y : Sets) : Type 0 where
  pub here : (y.armed n ≡ a) × (y.waiting n ≡ w) × (y.inside n ≡ i)
  pub others : (m : ℕ) → Bit m → (m ≢ n) → Stays x y m

-- these nodes are armed and in no other set, the others stay
pub record Arms (opens : ℕ → Type 0) (x y : Sets) : Type 0 where
  pub opened : (m : ℕ) → Bit m → opens m → (y.armed m ≡ true) × (y.waiting m ≡ false) × (y.inside m ≡ false)
  pub others : (m : ℕ) → Bit m → (opens m → ⊥) → Stays x y m

-- node n is done
pub record Ends (t : List ℕ) (n : ℕ) (x y : Sets) : Type 0 where
  pub ending : Ending (nodes t) (expr_at t) (owner t) (parent t) x y n
  pub past : Past (nodes t) x → Past (nodes t) y

-- function g is as new, and node n is inside it where it entered anew
pub record Renews (t : List ℕ) (n g : ℕ) (anew : Bool) (x y : Sets) : Type 0 where
  pub renewing : Renewing (nodes t) (body_of t) (expr_at t) (owner t) x y g (λ m. pick anew (m == n) false)
  pub held : (m : ℕ) → Range (nodes t) m → y.held m ≡ pick anew (x.held m || calls (expr_at t m) g) (x.held m)
  pub past : Past (nodes t) x → Past (nodes t) y

-- what a plan of node n makes of the sets, and the node that is to be read anew
pub record Updates (t : List ℕ) (n : ℕ) (p : Plan) (anew : ℕ) (x y : Sets) : Type 0 where
  pub again : (value : List ℕ) → anew ≡ rereads (parent t) n (planned t value n p)
  pub updated : (value : List ℕ) → UpdatedOf t x y n (planned t value n p)
  pub past : Past (nodes t) x → Past (nodes t) y
