-- the query and the two runs (document 01, "The circuit"): a run over a list is fixed here; of a query and of a run with
-- a budget it is said what is true whichever possible steps they name and take: which ones they are is in `First`
use Rattle.std.specs.Prelude.{ℕ, suc, ◌≤◌, ◌<◌, not, ◌≡◌, List, [], ◌∷◌, length, get_or, take}
use Rattle.table.specs.Syntax.{id}
use Rattle.table.specs.Bytes.{functions, nodes}
use Rattle.table.specs.Check.{Verdict, accepted, stage, refused}
use Rattle.table.specs.Expressions.{body_of}
use Rattle.list.specs.Tags.{after, check_with}
use Rattle.rules.specs.State.{State512, view}
use Rattle.rules.specs.Step.{Reply, taken, answered, denied, refusal, Stepped, over}
use Rattle.rules.specs.Circuit.{step_of, play_of, Possible}

-- what a query and both runs look at first: the table, its tags, 24
unfoldable pub standing : (t tags : List ℕ) → State512 → Verdict
standing t tags s = after (check_with t tags) λ _.
    stage 24 (not (over 3 (nodes t) s.status)) 0 λ _.
    stage 24 (not (over (nodes t) (functions t) s.occupant)) 0 λ _.
    accepted (functions t) (nodes t)

-- how a run over a list ends: past its last node, or with "that refusal"
pub data Halt : Type 0 where
  whole : Halt
  stopped : (number place : ℕ) → Halt

pub record Ran : Type 0 where
  pub steps : ℕ
  pub halt : Halt
  pub state : State512

-- a step, and the run after it: "stops at the first refusal"
abbrev pub and_then : Stepped → Reply → Ran → Ran
and_then r taken l = record { steps = suc l.steps; halt = l.halt; state = l.state }
and_then r (answered v) l = record { steps = suc l.steps; halt = l.halt; state = l.state }
and_then r (denied k p) l = record { steps = 0; halt = stopped k p; state = r.state }

unfoldable pub run_from : (t tags : List ℕ) → State512 → List ℕ → Ran
run_from t tags s [] = record { steps = 0; halt = whole; state = s }
run_from t tags s (n ∷ ns) =
    let r : Stepped = step_of t tags s n in
    and_then r r.answer (run_from t tags r.state ns)

abbrev pub run_after : Verdict → State512 → Ran → Ran
run_after (accepted F N) s r = r
run_after (refused number place) s r = record { steps = 0; halt = stopped number place; state = s }

-- the run over a list: steps in its order up to the first refusal, how many were taken, and that refusal
unfoldable pub run_of : (t tags : List ℕ) → State512 → List ℕ → Ran
run_of t tags s ns = run_after (standing t tags s) s (run_from t tags s ns)

-- of a run r over ns from s: what it took is a play of the first steps of ns, as many as it tells
pub record RunPlays (t tags : List ℕ) (s : State512) (ns : List ℕ) (r : Ran) : Type 0 where
  pub steps : (play_of t tags s (take r.steps ns)).nodes ≡ take r.steps ns
  pub number : length (take r.steps ns) ≡ r.steps
  pub state : (play_of t tags s (take r.steps ns)).state ≡ r.state
  -- to the end of the list, or the next step asked is refused
  pub all : r.halt ≡ whole → r.steps ≡ length ns
  pub next : (k p : ℕ) → r.halt ≡ stopped k p
      → (r.steps < length ns) × (step_of t tags r.state (get_or ns r.steps 0) ≡ refusal r.state k p)

-- main's root is done, and its value
abbrev pub MainDone : (t : List ℕ) → State512 → Type 0
MainDone t s = (view s).status (id (body_of t (functions t))) ≡ 3

abbrev pub main_value : (t : List ℕ) → State512 → ℕ
main_value t s = (view s).value (id (body_of t (functions t)))

-- how a run with a budget ends
pub data Ended : Type 0 where
  gave : (v : ℕ) → Ended
  at_rest : Ended
  spent : Ended
  barred : (number place : ℕ) → Ended

pub record Driven : Type 0 where
  pub steps : ℕ
  pub ended : Ended
  pub state : State512

-- what each end says of the state s that it is told in, after k steps: an answer first, then rest, and spent only at the budget
abbrev pub Says : (t tags : List ℕ) → (budget steps : ℕ) → State512 → Ended → Type 0
Says t tags budget k s (gave v) = MainDone t s × (main_value t s ≡ v)
Says t tags budget k s at_rest = (MainDone t s → ⊥) × ((n : ℕ) → Possible t tags s n → ⊥)
Says t tags budget k s spent = (MainDone t s → ⊥) × ((n : ℕ) × Possible t tags s n) × (k ≡ budget)
Says t tags budget k s (barred number place) = ⊥

-- a run with a budget: the steps picked are possible, at most so many, and as many as it tells, whichever they are
pub record Picks (t tags : List ℕ) (s : State512) (budget : ℕ) (r : Driven) : Type 0 where
  pub picked : List ℕ
  pub possible : (play_of t tags s picked).nodes ≡ picked
  pub number : length picked ≡ r.steps
  pub within : r.steps ≤ budget
  pub state : (play_of t tags s picked).state ≡ r.state
  pub says : Says t tags budget r.steps r.state r.ended

abbrev pub DrivesAfter : Verdict → (t tags : List ℕ) → State512 → (budget : ℕ) → Driven → Type 0
DrivesAfter (accepted F N) t tags s budget r = Picks t tags s budget r
DrivesAfter (refused number place) t tags s budget r = r ≡ record { steps = 0; ended = barred number place; state = s }

-- what is true of a run with a budget
abbrev pub Drives : (t tags : List ℕ) → State512 → (budget : ℕ) → Driven → Type 0
Drives t tags s budget r = DrivesAfter (standing t tags s) t tags s budget r

-- what a query says
pub data Found : Type 0 where
  names : (n : ℕ) → Found
  nothing : Found
  unasked : (number place : ℕ) → Found

abbrev pub FindsAfter : Verdict → (t tags : List ℕ) → State512 → Found → Type 0
FindsAfter (accepted F N) t tags s (names n) = Possible t tags s n
FindsAfter (accepted F N) t tags s nothing = (n : ℕ) → Possible t tags s n → ⊥
FindsAfter (accepted F N) t tags s (unasked number place) = ⊥
FindsAfter (refused number place) t tags s r = r ≡ unasked number place

-- what is true of a query's answer: it names a possible step, or nothing exactly where there is none
abbrev pub Finds : (t tags : List ℕ) → State512 → Found → Type 0
Finds t tags s r = FindsAfter (standing t tags s) t tags s r
