-- working definitions: what the parts of a step ask of each other, and the nodes of each function in a chain
use Rattle.std.specs.Prelude.{◌≡◌, ℕ, zero, suc, ◌-◌, ◌/◌, ◌%◌, ◌≤◌, Bool, true, false, not, ◌&&◌, ◌||◌, List, [], ◌∷◌, map, ◌==◌}
use Rattle.std.specs.Prelude.{slice_index, slice_index_or, Option, Some, None, Result, Ok}
use Rattle.std.specs.Borrow.{Bor}
use Rattle.table.specs.Pick.{pick}
use Rattle.table.specs.Bytes.{functions, nodes, kind, first}
use Rattle.table.specs.Naming.{owner, children, initial}
use Rattle.table.specs.Check.{accepted}
use Rattle.table.specs.Expressions.{body_of}
use Rattle.table.specs.declared.Design.{Design}
use Rattle.table.specs.declared.refusals.Reason.{Reason}
use Rattle.table.specs.declared.refusals.Reason.TheVariants.{NoStep, Waits, Collides}
use Rattle.table.specs.declared.refusals.Refusal.{Refusal}
use Rattle.list.specs.Tags.{check_with}
use Rattle.rules.specs.Arithmetic.{keep_all, arithmetic}
use Rattle.rules.specs.State.{State512, entry, In}
use Rattle.rules.specs.Step.{Act, stuck, blocked, does, Move, begins, turns, finishes, enters, leaves, restarts, over, perform}
use Rattle.rules.specs.Circuit.{act_of}
use Rattle.rules.specs.Sets.{goes}
use Rattle.rules.specs.Runs.{standing, Ran, Driven}
use Rattle.table.specs.Working.{IsNode, IsFunction, Taken, Read}
use Rattle.table.specs.Survey.{verdict_of}
use Rattle.circuit.specs.Meaning.{state_as, halt_of, ended_of}
use Rattle.circuit.specs.declared.types.Ended.{Ended}
use Rattle.circuit.specs.declared.plan.Plan.{Plan}
use Rattle.circuit.specs.declared.groups.Groups.{Groups}
use Rattle.circuit.specs.declared.sorts.Ready.{Ready}
use Rattle.table.specs.declared.Function.{Function}

-- the lowest of the k numbers after n that function g owns, 0 if there is none
unfoldable pub seek : (home : ℕ → ℕ) → (g k n : ℕ) → ℕ
seek home g zero n = 0
seek home g (suc k) n = pick (home (suc n) == g) (suc n) (seek home g k (suc n))

-- the one after node m of function g; none after none
unfoldable pub after : List ℕ → (g m : ℕ) → ℕ
after t g m = pick (m == 0) 0 (seek (owner t) g (nodes t - m) m)

-- the nodes of each function in ascending order: the first of them and 65536 times the second, and by node the next but one; 0 is none
pub record Grouped (t : List ℕ) (x : Groups) : Type 0 where
  pub none : slice_index_or x.links 0 0 ≡ 0
  pub first : (g : ℕ) → g ≤ 32 → slice_index x.heads g % 65536 ≡ seek (owner t) g (nodes t) 0
  pub second : (g : ℕ) → g ≤ 32 → slice_index x.heads g / 65536 ≡ after t g (seek (owner t) g (nodes t) 0)
  pub skip : (n : ℕ) → 1 ≤ n → n ≤ nodes t → slice_index x.links n ≡ after t (owner t n) (after t (owner t n) n)

-- .. where they are handed in
abbrev pub GroupedIf : List ℕ → Option (Bor Groups) → Type 0
GroupedIf t None = Unit {0}
GroupedIf t (Some x) = Grouped t x.now

-- whether a node has a step, as its sort
abbrev pub sort_of : Ready → ℕ
sort_of Ready.No = 0
sort_of Ready.IfFree = 1
sort_of Ready.Yes = 2

-- all of these nodes are done
unfoldable pub each_done : (status : ℕ → ℕ) → List ℕ → Bool
each_done status [] = true
each_done status (n ∷ ns) = status n == 3 && each_done status ns

-- a busy primitive or call in first phase: it has a step once all of its children are done
abbrev pub gathers_at : (t status : List ℕ) → List Bool → ℕ → Bool
gathers_at t status second n = entry status 0 n == 2 && (not (entry second false n) && (kind t n == 3 || kind t n == 4))

-- all of a chain, or of a let's the definientia
abbrev pub leading : Bool → List ℕ → List ℕ
leading defs l = pick defs (initial l) l

-- the last of these nodes, d of none
unfoldable pub last_from : ℕ → List ℕ → ℕ
last_from d [] = d
last_from d (n ∷ ns) = last_from n ns

-- the values of a node's children, and what function g keeps of them
abbrev pub given : List ℕ → List ℕ → ℕ → List ℕ
given t value n = map (entry value 0) (children t n)

abbrev pub kept_by : List ℕ → List ℕ → (g n : ℕ) → List ℕ
kept_by t value g n = keep_all (arithmetic t) g (given t value n)

-- the nodes that a node opens
unfoldable pub opens : List ℕ → ℕ → List ℕ
opens t n = pick (kind t n == 5) (first t n ∷ []) (pick (kind t n == 6) (initial (children t n)) (children t n))

-- what a plan says, of node n
abbrev pub planned : List ℕ → List ℕ → ℕ → Plan → Move
planned t value n Plan.Begins = begins (opens t n)
planned t value n (Plan.Turns m) = turns m.0
planned t value n (Plan.Finishes v) = finishes v
planned t value n (Plan.Enters g) = enters g.0 (kept_by t value g.0 n)
planned t value n (Plan.Restarts f) = restarts f.0 (kept_by t value f.0 n)
planned t value n (Plan.Leaves g v) = leaves g.0 v

-- a call's plan: it enters anew, or starts its own function again
abbrev pub calling : Function → Bool → Plan
calling g true = Plan.Enters g
calling g false = Plan.Restarts g

-- the plan is the move that node n has
abbrev pub Planned : (t : List ℕ) → State512 → ℕ → Plan → Type 0
Planned t s n p = does (planned t s.value n p) ≡ act_of t s n

-- .. if it has one
abbrev pub Plans : (t : List ℕ) → State512 → ℕ → Plan → Type 0
Plans t s n p = goes (act_of t s n) ≡ true → Planned t s n p

-- the state that it makes
abbrev pub performed : (t : List ℕ) → State512 → ℕ → Plan → State512
performed t s n p = perform (nodes t) (owner t) (body_of t) s n (planned t s.value n p)

-- what it names is there
abbrev pub Sound : List ℕ → ℕ → Plan → Type 0
Sound t n Plan.Begins = (m : ℕ) → In m (opens t n) → IsNode t m
Sound t n (Plan.Turns m) = IsNode t m.0
Sound t n (Plan.Finishes v) = Unit {0}
Sound t n (Plan.Enters g) = IsFunction t g.0
Sound t n (Plan.Restarts f) = IsFunction t f.0
Sound t n (Plan.Leaves g v) = IsFunction t g.0

-- node r once it is done: the value goes on
abbrev pub passed : (status value : List ℕ) → ℕ → Act
passed status value r = pick (entry status 0 r == 3) (does (finishes (entry value 0 r))) stuck

-- why a node has no step
abbrev pub why_not : (tagged : Bool) → Act → Option Reason
why_not tagged stuck = Some NoStep
why_not tagged blocked = Some (pick tagged Waits Collides)
why_not tagged (does m) = None

-- 24 is met: some status up to N is over 3, or some occupant up to F over N
abbrev pub stray_in : (t status occupant : List ℕ) → Bool
stray_in t status occupant = over 3 (nodes t) status || over (nodes t) (functions t) occupant

pub record Stands (t : List ℕ) (s : State512) : Type 0 where
  pub passes : stray_in t s.status s.occupant ≡ false

-- what is told of a table and its tags, with the table decoded where both are taken
pub record ReadIn (t tags : List ℕ) (r : Result Design Refusal) (cells : List ℕ) : Type 0 where
  pub told : verdict_of r ≡ check_with t tags
  pub read : (F N : ℕ) → verdict_of r ≡ accepted F N → Read t cells

-- the same with 24, before a query or a run; it looks at two arrays of the state, whatever the others are
pub record Admitted (t tags status occupant : List ℕ) (r : Result Design Refusal) (cells : List ℕ) : Type 0 where
  pub told : (second : List Bool) (value registers : List ℕ)
      → verdict_of r ≡ standing t tags (state_as status second value registers occupant)
  pub read : (F N : ℕ) → verdict_of r ≡ accepted F N → Read t cells

-- a table and tags that are taken
pub record Agreed (t tags : List ℕ) : Type 0 where
  pub fair : Taken t
  pub tagging : check_with t tags ≡ accepted (functions t) (nodes t)

-- how a run ended and after how many steps, beside the state that it leaves in the lent arrays
abbrev pub ran_as : Result (Unit {0}) Refusal → ℕ → State512 → Ran
ran_as r k s = record { steps = k; halt = halt_of r; state = s }

abbrev pub driven_as : Ended → ℕ → State512 → Driven
driven_as e k s = record { steps = k; ended = ended_of (Ok e); state = s }
