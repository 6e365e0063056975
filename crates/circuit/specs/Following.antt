-- a run of first steps that keeps the sets: what it starts from, what each move makes of them, and what it has come to
use Rattle.std.specs.Prelude.{◌≡◌, ℕ, Bool, true, false, ◌||◌, List, ◌==◌, ◌≢◌, Option, Some, None}
use Rattle.table.specs.Pick.{pick}
use Rattle.table.specs.Bytes.{functions, root}
use Rattle.rules.specs.State.{State512, Sized, entry}
use Rattle.rules.specs.Runs.{Ended, gave, at_rest, spent}
use Rattle.rules.specs.First.{drive_from}
use Rattle.rules.specs.Sets.{Sets, Stays, first_in}
use Rattle.list.specs.Working.{Bit}
use Rattle.table.specs.declared.Node.{Node}
use Rattle.circuit.specs.declared.plan.Plan.{Plan}
use Rattle.circuit.specs.Meaning.{state_as}
use Rattle.circuit.specs.Working.{Agreed, Stands, Planned, performed}
use Rattle.circuit.specs.Packed.{Rowed, Names, Tracks}

-- the sets are those of a state that stands; main's root is at `top`
pub record Follows (t tags : List ℕ) (top : ℕ) (rows : List ℕ) (s : State512) (x : Sets) : Type 0 where
  pub agreed : Agreed t tags
  pub main : top ≡ root t (functions t)
  pub rowed : Rowed t rows
  pub sized : Sized s
  pub stands : Stands t s
  pub tracks : Tracks t s x

-- a plan by which its node is done, and one by which a callee is left
abbrev pub ends : Plan → Bool
ends Plan.Begins = false
ends (Plan.Turns m) = false
ends (Plan.Finishes v) = true
ends (Plan.Enters g) = false
ends (Plan.Restarts f) = false
ends (Plan.Leaves g v) = true

abbrev pub frees : Plan → Bool
frees Plan.Begins = false
frees (Plan.Turns m) = false
frees (Plan.Finishes v) = false
frees (Plan.Enters g) = false
frees (Plan.Restarts f) = false
frees (Plan.Leaves g v) = true

-- node p has a step of sort k: it is armed or waits by that; where it gathers its children, it was in neither set before
pub record Grows (p k : ℕ) (gathers : Bool) (x y : Sets) : Type 0 where
  pub armed : y.armed p ≡ pick gathers (k == 2 || x.armed p) (k == 2)
  pub waiting : y.waiting p ≡ (pick gathers (k == 1) false || x.waiting p)
  pub inside : y.inside p ≡ x.inside p
  pub others : (m : ℕ) → Bit m → (m ≢ p) → Stays x y m

-- the first node that has a step, if it is known without a look at the sets
abbrev pub Known : Option Node → Sets → Type 0
Known None x = Unit {0}
Known (Some n) x = Names (Some n) (first_in x 512)

-- if x are the sets of a state, y are those of the one that the planned move of node n makes of it, whatever registers and occupants are
abbrev pub Carries : (t : List ℕ) → ℕ → Plan → List ℕ → List Bool → List ℕ → (x y : Sets) → Type 0
Carries t n p status second value x y = (d e : List ℕ) (s : State512) → Sized s → Planned t s n p
    → state_as status second value d e ≡ performed t s n p → Tracks t s x → Tracks t (state_as status second value d e) y

-- .. and r is the first node that has a step then, if it is told
abbrev pub Onward : (t : List ℕ) → ℕ → Plan → List ℕ → List Bool → List ℕ → Sets → Option Node → Sets → Type 0
Onward t n p status second value x r y = (d e : List ℕ) (s : State512) → Sized s → Planned t s n p
    → state_as status second value d e ≡ performed t s n p → Tracks t s x → Tracks t (state_as status second value d e) y × Known r y

-- how a run stands where the sets are x: main's root, at `top`, is done; nothing is possible; else its budget is spent
abbrev pub stands_at : (status value : List ℕ) → ℕ → Sets → Ended
stands_at status value top x =
    pick (entry status 0 top == 3) (gave (entry value 0 top)) (pick (first_in x 512 == 0) at_rest spent)

-- k of a budget of b steps from s are taken, to s'; the sets tell how the run stands there
pub record Followed (t tags : List ℕ) (top b k : ℕ) (s s' : State512) (x : Sets) : Type 0 where
  pub drove : drive_from t tags s b ≡ record { steps = k; ended = stands_at s'.status s'.value top x; state = s' }
