-- the third demand of what the entries return: of a start and the steps after it, then of each entry in any state so reached
use Rattle.std.specs.Prelude.{◌≡◌, ℕ, ◌+◌, ◌<◌, ◌≤◌, ◌⊎◌, ◌↔◌, List, [], ◌∷◌, ◌++◌, map, length, take, ◌≢◌, slice_index, Option, Result, Ok}
use Rattle.table.specs.Bytes.{functions}
use Rattle.list.specs.Tags.{Holding, Lacks}
use Rattle.rules.specs.State.{State512, In}
use Rattle.rules.specs.Step.{Reply, answered, denied, refusal}
use Rattle.rules.specs.Play.{IsTaken, noted}
use Rattle.rules.specs.Starts.{Fitting}
use Rattle.rules.specs.Circuit.{started, turned, opening, start_of, step_of, play_of, entries_of, leavings_of, Possible}
use Rattle.rules.specs.Runs.{whole, stopped, run_of, MainDone, main_value, gave, at_rest, spent, barred, names, nothing, unasked}
use Rattle.rules.specs.First.{firsts_of, query_of, drive_of}
use Rattle.rules.specs.Reading.{ReadsTo}
use Rattle.rules.specs.Demand.{DemandThree}
use Rattle.circuit.specs.Meaning.{lists_of, reply_of, stepped_of, started_of, StartedAs, halt_of, ran_of, ended_of, driven_of, found_of}
use Rattle.circuit.specs.declared.types.State.{State}
use Rattle.circuit.specs.declared.types.Started.{Started}
use Rattle.circuit.specs.declared.types.Stepped.{Stepped}
use Rattle.circuit.specs.declared.types.Ran.{Ran}
use Rattle.circuit.specs.declared.types.Driven.{Driven}
use Rattle.table.specs.declared.Node.{Node}
use Rattle.table.specs.declared.refusals.Refusal.{Refusal}

-- rs is what step returned at the numbers ns, one after the other from s on, each with the state that the one before returned
abbrev pub StepsOf : (t tags : List ℕ) → State → List ℕ → List Stepped → Type 0
StepsOf t tags s [] [] = Unit {0}
StepsOf t tags s [] (r ∷ rs) = ⊥
StepsOf t tags s (n ∷ ns) [] = ⊥
StepsOf t tags s (n ∷ ns) (r ∷ rs) = (stepped_of r ≡ step_of t tags (lists_of s) n) × StepsOf t tags r.state ns rs

-- the answers, the numbers of those that are no refusals, and the state after the last
abbrev pub answers_of : List Stepped → List Reply
answers_of rs = map (λ r. reply_of r.answer) rs

abbrev pub taken_of : List ℕ → List Stepped → List ℕ
taken_of [] rs = []
taken_of (n ∷ ns) [] = []
taken_of (n ∷ ns) (r ∷ rs) = noted (reply_of r.answer) n (taken_of ns rs)

abbrev pub last_state : State → List Stepped → State
last_state s [] = s
last_state s (r ∷ rs) = last_state r.state rs

-- a step asked at n in state s would be taken: what the entry returns there is no refusal
abbrev pub Takes : (t tags : List ℕ) → State → ℕ → Type 0
Takes t tags s n = Possible t tags (lists_of s) n
    × ((r : Stepped) → stepped_of r ≡ step_of t tags (lists_of s) n → IsTaken (reply_of r.answer))

-- s is the state that `steps`, all of them taken, lead to from a start with these arguments, by whichever entries
pub record Reached (t tags args steps : List ℕ) (s : State) : Type 0 where
  pub first : State512
  pub start : start_of t tags args ≡ started first
  pub taken : (play_of t tags first steps).nodes ≡ steps
  pub state : (play_of t tags first steps).state ≡ lists_of s

-- of what start returned for table, tags and arguments, the state `old` being handed in
pub record StartEntry (t tags args : List ℕ) (old : State) (r : Started) : Type 0 where
  -- it opened exactly if the table, 10, 11 and 26 are passed, and its state is the one that the rules name
  pub opened : (r.opening ≡ Ok tt) ↔ (Fitting t tags args × Holding t tags)
  pub state : r.opening ≡ Ok tt → lists_of r.state ≡ opening t args
  -- it was refused 26 at n exactly if the other three are passed and n is the lowest listed call without a tag
  pub lacking : (n : ℕ) → (started_of r ≡ turned 26 n) ↔ (Fitting t tags args × Lacks t tags n)
  -- refused by whatever number, it returned the state handed in
  pub kept : (number place : ℕ) → started_of r ≡ turned number place → r.state ≡ old

abbrev pub StartOfEntry : Type 0
StartOfEntry = (t tags args : List ℕ) (old : State) (r : Started) → StartedAs old r (start_of t tags args) → StartEntry t tags args old r

-- of a start r₀ that opened and the steps rs after it, asked at the numbers ns
pub record EntryDemand (t tags args : List ℕ) (r₀ : Started) (ns : List ℕ) (rs : List Stepped) : Type 0 where
  -- no step answered 23
  pub arbitrated : (place : ℕ) → In (denied 23 place) (answers_of rs) → ⊥
  -- after every prefix of them, of the steps that were taken
  pub exclusive : (k f : ℕ) → 1 ≤ f → f ≤ functions t
      → entries_of t f (taken_of (take k ns) (take k rs)) ≤ leavings_of t f (taken_of (take k ns) (take k rs)) + 1
  -- one of them answered, or in the state that the last returned some step would be taken
  pub lively : ((v : ℕ) × In (answered v) (answers_of rs)) ⊎ ((n : ℕ) × Takes t tags (last_state r₀.state rs) n)
  -- an answer is the reading's, which counts as many steps as were taken
  pub right : (v : ℕ) → In (answered v) (answers_of rs) → ReadsTo t args v (length (taken_of ns rs))
  -- one answered v exactly if main's root is done with v in the state that the last returned
  pub said : (v : ℕ) → In (answered v) (answers_of rs)
      ↔ (MainDone t (lists_of (last_state r₀.state rs)) × (main_value t (lists_of (last_state r₀.state rs)) ≡ v))
  -- query and runs go on from there
  pub reached : Reached t tags args (taken_of ns rs) (last_state r₀.state rs)
  -- all this is what demand 3 says of the rules' play
  pub answers : answers_of rs ≡ (play_of t tags (lists_of r₀.state) ns).answers
  pub steps : taken_of ns rs ≡ (play_of t tags (lists_of r₀.state) ns).nodes
  pub state : lists_of (last_state r₀.state rs) ≡ (play_of t tags (lists_of r₀.state) ns).state
  pub demand : DemandThree t tags args (lists_of r₀.state) ns

abbrev pub DemandOfEntries : Type 0
DemandOfEntries = (t tags args : List ℕ) (old : State) (r₀ : Started)
    → StartedAs old r₀ (start_of t tags args) → r₀.opening ≡ Ok tt
    → (ns : List ℕ) (rs : List Stepped) → StepsOf t tags r₀.state ns rs → EntryDemand t tags args r₀ ns rs

-- of a state that was reached, whatever is asked next
pub record StateDemand (t tags args steps : List ℕ) (s : State) : Type 0 where
  pub exclusive : (k f : ℕ) → 1 ≤ f → f ≤ functions t → entries_of t f (take k steps) ≤ leavings_of t f (take k steps) + 1
  pub lively : MainDone t (lists_of s) ⊎ ((n : ℕ) × Takes t tags s n)
  pub right : MainDone t (lists_of s) → ReadsTo t args (main_value t (lists_of s)) (length steps)

-- of a step asked there at n
pub record StepEntry (t tags args steps : List ℕ) (n : ℕ) (r : Stepped) : Type 0 where
  pub arbitrated : (place : ℕ) → reply_of r.answer ≢ denied 23 place
  pub reached : Reached t tags args (steps ++ noted (reply_of r.answer) n []) r.state
  pub demand : StateDemand t tags args (steps ++ noted (reply_of r.answer) n []) r.state
  pub right : (v : ℕ) → reply_of r.answer ≡ answered v → ReadsTo t args v (length steps + 1)

-- of a run over ms
pub record RunEntry (t tags args steps ms : List ℕ) (r : Ran) : Type 0 where
  -- 23 doesn't stop it
  pub arbitrated : (place : ℕ) → halt_of r.halt ≢ stopped 23 place
  -- it took as many of the steps asked as it tells, and its state is again one that demand 3 speaks of
  pub number : r.steps ≡ length (take r.steps ms)
  pub reached : Reached t tags args (steps ++ take r.steps ms) r.state
  pub demand : StateDemand t tags args (steps ++ take r.steps ms) r.state
  -- to the end of ms, or the step after those is refused as it says
  pub all : halt_of r.halt ≡ whole → r.steps ≡ length ms
  pub next : (k p : ℕ) → halt_of r.halt ≡ stopped k p
      → (r.steps < length ms) × (step_of t tags (lists_of r.state) (slice_index ms r.steps) ≡ refusal (lists_of r.state) k p)

-- of a run with a budget there
pub record DriveEntry (t tags args steps : List ℕ) (s : State) (budget : ℕ) (r : Driven) : Type 0 where
  -- asked one by one its first steps are taken, as many as it tells, and its state is again one that demand 3 speaks of
  pub number : length (play_of t tags (lists_of s) (firsts_of t tags (lists_of s) r.steps)).nodes ≡ r.steps
  pub within : r.steps ≤ budget
  pub reached : Reached t tags args (steps ++ firsts_of t tags (lists_of s) r.steps) r.state
  pub demand : StateDemand t tags args (steps ++ firsts_of t tags (lists_of s) r.steps) r.state
  -- its answer is the reading's, and all steps since the start are its count
  pub right : (v : ℕ) → ended_of r.ended ≡ gave v → ReadsTo t args v (length steps + r.steps)
  -- else the budget is spent: no such state is at rest, and none is refused
  pub never_rests : ended_of r.ended ≡ at_rest → ⊥
  pub never_barred : (number place : ℕ) → ended_of r.ended ≢ barred number place
  pub all : ended_of r.ended ≡ spent → r.steps ≡ budget

-- of a query
pub record QueryEntry (t tags args steps : List ℕ) (s : State) (r : Result (Option Node) Refusal) : Type 0 where
  -- the step that it names would be taken, and none at a lower node
  pub named : (n : ℕ) → found_of r ≡ names n → Takes t tags s n
  pub lowest : (n m : ℕ) → found_of r ≡ names n → Takes t tags s m → n ≤ m
  -- none only if main has answered, with the reading's value and count; and then none
  pub none : found_of r ≡ nothing → MainDone t (lists_of s) × ReadsTo t args (main_value t (lists_of s)) (length steps)
  pub over : MainDone t (lists_of s) → found_of r ≡ nothing
  pub never_refused : (number place : ℕ) → found_of r ≢ unasked number place

-- whichever entry is called in a reached state
pub record ReachedDemand (t tags args steps : List ℕ) (s : State) : Type 0 where
  pub state : StateDemand t tags args steps s
  pub of_step : (n : ℕ) (r : Stepped) → stepped_of r ≡ step_of t tags (lists_of s) n → StepEntry t tags args steps n r
  pub of_run : (ms : List ℕ) (r : Ran) → ran_of r ≡ run_of t tags (lists_of s) ms → RunEntry t tags args steps ms r
  pub of_drive : (budget : ℕ) (r : Driven) → driven_of r ≡ drive_of t tags (lists_of s) budget → DriveEntry t tags args steps s budget r
  pub of_query : (r : Result (Option Node) Refusal) → found_of r ≡ query_of t tags (lists_of s) → QueryEntry t tags args steps s r

abbrev pub DemandOfReached : Type 0
DemandOfReached = (t tags args steps : List ℕ) (s : State) → Reached t tags args steps s → ReachedDemand t tags args steps s
