-- the first possible step: the query names it, and the run with a budget follows it; both results are fixed
use Rattle.std.specs.Prelude.{ℕ, zero, suc, ◌+◌, ◌≤◌, ◌≡◌, Bool, true, false, not, List, [], ◌∷◌, eqb, length}
use Rattle.table.specs.Pick.{pick, Range}
use Rattle.table.specs.Find.{lowest}
use Rattle.table.specs.Syntax.{id}
use Rattle.table.specs.Bytes.{functions, nodes}
use Rattle.table.specs.Check.{Verdict, accepted, refused}
use Rattle.table.specs.Expressions.{body_of}
use Rattle.rules.specs.State.{State512, view}
use Rattle.rules.specs.Step.{Reply, taken, answered, denied, done}
use Rattle.rules.specs.Circuit.{step_of, play_of, Possible}
use Rattle.rules.specs.Runs.{standing, MainDone, main_value, Ended, gave, at_rest, spent, barred, Driven, Drives}
use Rattle.rules.specs.Runs.{Found, names, nothing, unasked, Finds}

-- the test beside `IsTaken`
abbrev pub is_taken : Reply → Bool
is_taken taken = true
is_taken (answered v) = true
is_taken (denied k p) = false

-- the lowest node whose step isn't refused, 0 if there is none
unfoldable pub first_of : (t tags : List ℕ) → State512 → ℕ
first_of t tags s = lowest (λ n. not (is_taken (step_of t tags s n).answer)) (nodes t)

-- a node is named, 0 is none
abbrev pub found_at : ℕ → Found
found_at zero = nothing
found_at (suc n) = names (suc n)

abbrev pub query_after : Verdict → ℕ → Found
query_after (accepted F N) n = found_at n
query_after (refused number place) n = unasked number place

-- what a query says: the refusals come first
unfoldable pub query_of : (t tags : List ℕ) → State512 → Found
query_of t tags s = query_after (standing t tags s) (first_of t tags s)

-- the state after the first possible step, unchanged where there is none
unfoldable pub onward : (t tags : List ℕ) → State512 → State512
onward t tags s = (step_of t tags s (first_of t tags s)).state

-- after k such steps; past the last possible one it stands still
unfoldable pub after_first : (t tags : List ℕ) → State512 → ℕ → State512
after_first t tags s zero = s
after_first t tags s (suc k) = after_first t tags (onward t tags s) k

-- the nodes of the first k of those steps: the trace that two benches compare, where a run took so many; past the last possible step it
-- lists 0, which is no node
unfoldable pub firsts_of : (t tags : List ℕ) → State512 → (k : ℕ) → List ℕ
firsts_of t tags s zero = []
firsts_of t tags s (suc k) = first_of t tags s ∷ firsts_of t tags (onward t tags s) k

-- a run that takes no step and ends as e says; one that takes a step before it goes on as r does
abbrev pub stays : State512 → Ended → Driven
stays s e = record { steps = 0; ended = e; state = s }

abbrev pub one_more : Driven → Driven
one_more r = record { steps = suc r.steps; ended = r.ended; state = r.state }

-- k steps before what r says
abbrev pub plus : ℕ → Driven → Driven
plus k r = record { steps = k + r.steps; ended = r.ended; state = r.state }

-- main's answer ends a run; else that no step is possible does; else it goes on as r says
abbrev pub unless_over : (t tags : List ℕ) → State512 → Driven → Driven
unless_over t tags s r =
    pick (done (view s) (id (body_of t (functions t)))) (stays s (gave (main_value t s)))
    (pick (eqb (first_of t tags s) 0) (stays s at_rest) r)

-- turn by turn; with nothing left of the budget it is spent
unfoldable pub drive_from : (t tags : List ℕ) → State512 → (budget : ℕ) → Driven
drive_from t tags s zero = unless_over t tags s (stays s spent)
drive_from t tags s (suc b) = unless_over t tags s (one_more (drive_from t tags (onward t tags s) b))

abbrev pub drive_after : Verdict → State512 → Driven → Driven
drive_after (accepted F N) s r = r
drive_after (refused number place) s r = stays s (barred number place)

-- a run with a budget: the refusals come first
unfoldable pub drive_of : (t tags : List ℕ) → State512 → (budget : ℕ) → Driven
drive_of t tags s budget = drive_after (standing t tags s) s (drive_from t tags s budget)

-- r is the first possible node: it is possible, and none below it is
pub record First (t tags : List ℕ) (s : State512) (r : ℕ) : Type 0 where
  pub node : Range (nodes t) r
  pub possible : Possible t tags s r
  pub least : (n : ℕ) → Possible t tags s n → r ≤ n

-- the trace of a run: asked one by one its steps are all taken, they are as many as the run tells, and they lead to its state
pub record Traced (t tags : List ℕ) (s : State512) (r : Driven) : Type 0 where
  pub taken : (play_of t tags s (firsts_of t tags s r.steps)).nodes ≡ firsts_of t tags s r.steps
  pub number : length (play_of t tags s (firsts_of t tags s r.steps)).nodes ≡ r.steps
  pub state : (play_of t tags s (firsts_of t tags s r.steps)).state ≡ r.state

-- of every state s, also one that no start leads to
pub record FirstSteps (t tags : List ℕ) (s : State512) : Type 0 where
  -- 0 exactly if nothing is possible, and then any number of first steps changes nothing
  pub some : (first_of t tags s ≡ 0 → ⊥) → First t tags s (first_of t tags s)
  pub none : first_of t tags s ≡ 0 → (n : ℕ) → Possible t tags s n → ⊥
  pub rests : first_of t tags s ≡ 0 → (k : ℕ) → after_first t tags s k ≡ s
  -- the node that a query names; where it isn't refused, it says none once main's root is done
  pub named : (n : ℕ) → query_of t tags s ≡ names n → First t tags s n
  pub over : (F N : ℕ) → standing t tags s ≡ accepted F N → MainDone t s → query_of t tags s ≡ nothing
  -- what holds whichever possible steps are named and taken
  pub finds : Finds t tags s (query_of t tags s)
  pub drives : (budget : ℕ) → Drives t tags s budget (drive_of t tags s budget)
  pub traced : (budget : ℕ) → Traced t tags s (drive_of t tags s budget)
  -- a run leaves the state that as many first steps make as it tells; k of them and then j are k + j
  pub state : (budget : ℕ) → (drive_of t tags s budget).state ≡ after_first t tags s (drive_of t tags s budget).steps
  pub more : (k j : ℕ) → after_first t tags s (k + j) ≡ after_first t tags (after_first t tags s k) j
  -- a run whose budget is spent, and another from the state that it left, are one run under both budgets
  pub on : (k j : ℕ) → (drive_of t tags s k).ended ≡ spent
      → drive_of t tags s (k + j) ≡ plus (drive_of t tags s k).steps (drive_of t tags (drive_of t tags s k).state j)
