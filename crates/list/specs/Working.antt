-- what the parts of the walk ask of each other: packed sets (the circuit cites bit_at, packed, Bit, PutAt too), sites, what the walk keeps
use Rattle.std.specs.Prelude.{◌≡◌, ℕ, zero, suc, ◌+◌, ◌-◌, ◌*◌, ◌/◌, ◌%◌, ◌^◌, ◌<◌, ◌≤◌, Bool, true, false, ◌&&◌, ◌||◌, List, ◌++◌}
use Rattle.std.specs.Prelude.{[], length, ◌==◌, slice_index, slice_index_or, Result, IfOk}
use Rattle.table.specs.Pick.{pick, Range}
use Rattle.table.specs.Syntax.{Expr, Exprs, none, some}
use Rattle.table.specs.Bytes.{functions, nodes, kind, first}
use Rattle.table.specs.Naming.{owner}
use Rattle.table.specs.Expressions.{exprs_at, expr_at, body_of, defs_at, final_at}
use Rattle.table.specs.Working.{IsNode, IsFunction, Taken}
use Rattle.table.specs.declared.refusals.Refusal.{Refusal}
use Rattle.list.specs.declared.Record.{Record}
use Rattle.list.specs.declared.records.Chains.{Chains}
use Rattle.list.specs.declared.records.Marked.{Marked}
use Rattle.list.specs.declared.kept.Kept.{Kept}
use Rattle.list.specs.declared.walk.Siblings.{Siblings}
use Rattle.list.specs.Arbiters.{Test, no_calls, joined, any_up_to, calls_in, calls_in*, parallel, conflicts, conflicts*, calls_of}
use Rattle.list.specs.Tags.{verdict_by, tagged, callee_of, reached, listed}
use Rattle.list.specs.Records.{calls_from, records_from, records_of, records_verdict}

-- bit k of a number
abbrev pub bit_at : ℕ → ℕ → Bool
bit_at x k = x / 2 ^ k % 2 == 1

-- a node that a set of 512 bits has a bit for; a function that a mask of 32 bits has a bit for: no call is of main
abbrev pub Bit : ℕ → Type 0
Bit m = Range 512 m

abbrev pub Callee : ℕ → Type 0
Callee h = Range 31 h

-- C of a body, C and A of an expression and of a chain, in a table
unfoldable pub calls_by : List ℕ → ℕ → Test
calls_by t = calls_of (nodes t) (callee_of t) (body_of t) (functions t)

unfoldable pub calls_at : List ℕ → Expr → Test
calls_at t = calls_in (nodes t) (callee_of t) (calls_by t)

unfoldable pub calls_at* : List ℕ → Exprs → Test
calls_at* t = calls_in* (nodes t) (callee_of t) (calls_by t)

unfoldable pub conflicts_at : List ℕ → Expr → Test
conflicts_at t = conflicts (nodes t) (callee_of t) (calls_by t)

unfoldable pub conflicts_at* : List ℕ → Exprs → Test
conflicts_at* t = conflicts* (nodes t) (callee_of t) (calls_by t)

unfoldable pub parallel_at : List ℕ → Exprs → Test
parallel_at t = parallel (nodes t) (callee_of t) (calls_by t) no_calls

-- h is called in s
unfoldable pub called_in : List ℕ → Test → Test
called_in t s h = any_up_to (nodes t) (λ β. s β && h == callee_of t β)

-- h is called in two of the expressions
unfoldable pub twice_in : List ℕ → Exprs → Test
unfolding calls_at calls_at* called_in
twice_in t none h = false
twice_in t (some e es) h = twice_in t es h || (called_in t (calls_at t e) h && called_in t (calls_at* t es) h)

-- of a node that calls another function, itself and the calls of that body
unfoldable pub entry_at : List ℕ → ℕ → Test
entry_at t n m = pick (callee_of t n == 0) false (n == m || calls_by t (callee_of t n) m)

-- the siblings from c on; of a let the definientia alone
abbrev pub siblings : List ℕ → Bool → ℕ → Exprs
siblings t defs c = pick defs (defs_at t c) (exprs_at t c)

-- the children of n, or of a let the definientia
abbrev pub kids_at : List ℕ → Bool → ℕ → Exprs
kids_at t defs n = siblings t defs (first t n)

-- bit n of packed words, the lowest bit of the first word being bit 1; past the end every word reads 0
unfoldable pub packed : List ℕ → Test
packed words n = bit_at (slice_index words ((n - 1) / 64)) ((n - 1) % 64)

-- member m of set k of several
abbrev pub row : List (List ℕ) → ℕ → Test
row sets k = packed (slice_index_or sets k [])

-- the sites of those of the functions 1 to k that a mask names
unfoldable pub union_of : (sites : List (List ℕ)) (mask k : ℕ) → Test
unfolding any_up_to
union_of sites mask k m = any_up_to k (λ h. bit_at mask h && row sites h m)

-- what holds a set's calls of the functions called twice, where a mask names the functions called in it: the set itself where all are
-- called twice, else their sites
unfoldable pub shared_of : (set : List ℕ) (sites : List (List ℕ)) (once twice : ℕ) → Test
shared_of set sites once twice m = pick (once == twice) (packed set m) (union_of sites twice 31 m)

-- a set of 8 words with the members of another added
pub record Adds (s : Test) (set set' : List ℕ) : Type 0 where
  pub size : length set' ≡ 8
  pub bits : (m : ℕ) → Bit m → packed set' m ≡ packed set m || s m

-- rows of 65 sets, of which set k begins at bit 512 k, to whose set k node n was added (the circuit's rows)
pub record PutAt (k n : ℕ) (rows rows' : List ℕ) : Type 0 where
  pub size : length rows' ≡ 520
  pub bits : (h m : ℕ) → Bit m → packed rows' (512 * h + m) ≡ packed rows (512 * h + m) || (k == h && n == m)

-- what is kept, to whose conflicts were added a set's calls of the functions called twice
pub record MetBy (set : List ℕ) (once twice : ℕ) (k k' : Kept) : Type 0 where
  pub bits : (m : ℕ) → Bit m
      → packed k'.conflicts m ≡ packed k.conflicts m || (packed set m && shared_of set k.sites once twice m)
  pub others : k' ≡ record { conflicts = k'.conflicts; calls = k.calls; sites = k.sites; called = k.called }

-- a function whose body has been walked
abbrev pub Seen : Kept → ℕ → Type 0
Seen k g = slice_index k.called g ≡ 0 → ⊥

-- call m has been met: it is among the sites of its function
abbrev pub Met : List ℕ → Kept → ℕ → Type 0
Met t k m = Callee (callee_of t m) × (row k.sites (callee_of t m) m ≡ true)

-- of each body that has been walked: its calls, which have been met, the functions called in it, whose bodies have been walked too, and
-- its conflicts among those found, which are listed; and a site is a call of its function
pub record Memo (t : List ℕ) (k : Kept) : Type 0 where
  pub size_calls : length k.calls ≡ 33
  pub size_sites : length k.sites ≡ 33
  pub size_called : length k.called ≡ 33
  pub sets : (g m : ℕ) → IsFunction t g → Seen k g → Bit m → row k.calls g m ≡ calls_by t g m
  pub sited : (g m : ℕ) → IsFunction t g → Seen k g → Bit m → calls_by t g m ≡ true → Met t k m
  pub masks : (g h : ℕ) → IsFunction t g → Seen k g → Callee h → bit_at (slice_index k.called g) h ≡ called_in t (calls_by t g) h
  pub closed : (g h : ℕ) → IsFunction t g → Seen k g → Callee h → called_in t (calls_by t g) h ≡ true → Seen k h
  pub whole : (g m : ℕ) → IsFunction t g → Seen k g → Bit m → conflicts_at t (body_of t g) m ≡ true → packed k.conflicts m ≡ true
  pub sound : (m : ℕ) → Bit m → packed k.conflicts m ≡ true → listed t m ≡ true
  pub sites : (h m : ℕ) → Callee h → Bit m → row k.sites h m ≡ true → callee_of t m ≡ h

-- what stays: bodies walked, conflicts found, sites met
pub record Grown (k k' : Kept) : Type 0 where
  pub seen : (g : ℕ) → Seen k g → Seen k' g
  pub stays : (m : ℕ) → Bit m → packed k.conflicts m ≡ true → packed k'.conflicts m ≡ true
  pub stands : (h m : ℕ) → Callee h → Bit m → row k.sites h m ≡ true → row k'.sites h m ≡ true

-- a walk over what has the calls s and the conflicts x: set gets the calls, mask is of the functions called, whose bodies are walked
pub record Walk (t : List ℕ) (s x : Test) (mask : ℕ) (set set' : List ℕ) (k k' : Kept) : Type 0 where
  pub memo : Memo t k'
  pub grown : Grown k k'
  pub added : Adds s set set'
  pub functions : (h : ℕ) → Callee h → bit_at mask h ≡ called_in t s h
  pub walked : (h : ℕ) → Callee h → called_in t s h ≡ true → Seen k' h
  pub finds : (m : ℕ) → Bit m → x m ≡ true → packed k'.conflicts m ≡ true
  pub met : (m : ℕ) → Bit m → s m ≡ true → Met t k' m

-- a walk whose functions are put to those of a mask
pub record Onto (t : List ℕ) (s x : Test) (mask mask' : ℕ) (set set' : List ℕ) (k k' : Kept) : Type 0 where
  pub own : ℕ
  pub walk : Walk t s x own set set' k k'
  pub joins : (h : ℕ) → Callee h → bit_at mask' h ≡ bit_at mask h || bit_at own h

abbrev pub OntoNode : (t : List ℕ) (n mask mask' : ℕ) (set set' : List ℕ) (k k' : Kept) → Type 0
OntoNode t n = Onto t (calls_at t (expr_at t n)) (conflicts_at t (expr_at t n))

-- a node of function f, which is reached, in an accepted table
pub record Within (t : List ℕ) (f n : ℕ) : Type 0 where
  pub taken : Taken t
  pub node : IsNode t n
  pub own : owner t n ≡ f
  pub in_reach : reached t f ≡ true

-- a node of kind k, which is 3 to top
pub record KindTo (t : List ℕ) (n k top : ℕ) : Type 0 where
  pub is : k ≡ kind t n
  pub low : 3 ≤ k
  pub high : k ≤ top

-- a walk along siblings; of a let it names the body
pub record Chained (t : List ℕ) (f c : ℕ) (defs : Bool) (r : Siblings) (set set' : List ℕ) (k k' : Kept)
    : Type 0 where
  pub walk : Walk t (calls_at* t (siblings t defs c)) (conflicts_at* t (siblings t defs c))
      r.once set set' k k'
  pub twice : (h : ℕ) → Callee h → bit_at r.twice h ≡ twice_in t (siblings t defs c) h
  pub last : defs ≡ true → IsNode t r.last.0 × (owner t r.last.0 ≡ f) × (c ≤ r.last.0) × (final_at t c ≡ expr_at t r.last.0)

-- node n's children are evaluated side by side; of a let (defs) all but the last
pub record Beside (t : List ℕ) (n : ℕ) (defs : Bool) : Type 0 where
  pub calls : (m : ℕ) → calls_at* t (kids_at t defs n) m ≡ true → Range (nodes t) m × Callee (callee_of t m)
  pub conflicts : (m : ℕ) → parallel_at t (kids_at t defs n) m ≡ true → listed t m ≡ true

-- a walk over node n's children, with their conflicts
abbrev pub WalkKids : (t : List ℕ) (n : ℕ) (defs : Bool) (mask : ℕ) (set set' : List ℕ) (k k' : Kept) → Type 0
WalkKids t n defs =
    Walk t (calls_at* t (kids_at t defs n)) (joined (parallel_at t (kids_at t defs n)) (conflicts_at* t (kids_at t defs n)))

abbrev pub OntoKids : (t : List ℕ) (n mask mask' : ℕ) (set set' : List ℕ) (k k' : Kept) → Type 0
OntoKids t n = Onto t (calls_at* t (kids_at t false n)) (joined (parallel_at t (kids_at t false n)) (conflicts_at* t (kids_at t false n)))

pub record Sided (t : List ℕ) (f n : ℕ) (defs : Bool) (r : Siblings) (set set' : List ℕ) (k k' : Kept)
    : Type 0 where
  pub walk : WalkKids t n defs r.once set set' k k'
  pub last : defs ≡ true → IsNode t r.last.0 × (owner t r.last.0 ≡ f) × (first t n ≤ r.last.0)
      × (final_at t (first t n) ≡ expr_at t r.last.0)

-- the records past a place in their order, function f and node n: those of f past n, then those of the functions past f
unfoldable pub rest_at : List ℕ → (f n : ℕ) → List Record
rest_at t f n = calls_from t f (nodes t - n) (n + 1) ++ records_from t (functions t - f) (f + 1)

-- a call in a chain: its node and its caller in one number
abbrev pub link_to : List ℕ → ℕ → ℕ
link_to t n = n + 1024 * owner t n

-- the first listed call of f among k nodes from n on, 0 if there is none
unfoldable pub first_link : List ℕ → (f k n : ℕ) → ℕ
first_link t f zero n = 0
first_link t f (suc k) n = pick (listed t n && callee_of t n == f) (link_to t n) (first_link t f k (suc n))

-- the listed calls past node n in chains: the first one of each function, and of each such call the next one of its function
pub record LinkedTo (t : List ℕ) (chains : Chains) (n : ℕ) : Type 0 where
  pub size_first : length chains.first ≡ 33
  pub size_next : length chains.next ≡ 513
  pub heads : (f : ℕ) → f ≤ 32 → slice_index chains.first f ≡ first_link t f (nodes t - n) (n + 1)
  pub links : (m : ℕ) → n < m → m ≤ nodes t → listed t m ≡ true
      → slice_index chains.next m ≡ first_link t (callee_of t m) (nodes t - m) (m + 1)

-- all of them
pub record Linked (t : List ℕ) (chains : Chains) : Type 0 where
  pub taken : Taken t
  pub all : LinkedTo t chains 0

-- the list's tag bits
pub record Tagging (t set : List ℕ) : Type 0 where
  pub bits : (m : ℕ) → Bit m → tagged set m ≡ listed t m

-- the chains of an accepted table, and how many records they give
pub record Marking (t : List ℕ) (m : Marked) : Type 0 where
  pub linked : Linked t m.chains
  pub main : m.design.main.0 ≡ functions t
  pub many : m.count ≡ length (records_of t)

-- the chains for a list of len records, or what refuses it
pub record Marks (t : List ℕ) (len : ℕ) (r : Result Marked Refusal) : Type 0 where
  pub told : verdict_by (λ m. m.design) r ≡ records_verdict t len
  pub marked : IfOk r (Marking t)
