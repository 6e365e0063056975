-- what holds beside the third demand: under any tags, of a call's steps, of runs from a start, past N and F, of 32-bit values, of the
-- table's own list, of the reading
use Rattle.std.specs.Prelude.{ℕ, ◌+◌, ◌%◌, ◌^◌, ◌≤◌, ◌<◌, ◌≡◌, ◌⊎◌, ◌↔◌, true, List, ◌++◌, eqb, length, get_or, take}
use Rattle.table.specs.Pick.{pick, Range}
use Rattle.table.specs.Bytes.{functions, nodes, params}
use Rattle.table.specs.Check.{accepted, check_of}
use Rattle.table.specs.Expressions.{expr_at, body_of}
use Rattle.list.specs.Tags.{check_with, tags_of, Holding}
use Rattle.rules.specs.Arithmetic.{arithmetic}
use Rattle.rules.specs.Reading.{Readings, Rounds, readings_of, ReadsTo}
use Rattle.rules.specs.State.{State512, Sized, View, entry, view}
use Rattle.rules.specs.Step.{Act, denied, does, enters, leaves, refusal}
use Rattle.rules.specs.Play.{Ask, count, calls}
use Rattle.rules.specs.Circuit.{started, opening, start_of, step_of, plays_of, play_of, entries_of, leavings_of, Possible, act_of}
use Rattle.rules.specs.Runs.{MainDone, main_value, standing, gave, at_rest, barred, Driven, Ran, run_of, RunPlays, Drives, Found}
use Rattle.rules.specs.Runs.{nothing, Finds}
use Rattle.rules.specs.First.{firsts_of, query_of, drive_of}
use Rattle.rules.specs.Demand.{Answers}

-- x is what the next step does at a call of function f, k of the call's steps taken before: it is the (k + 1)st
pub record Phases (x : Act) (f k : ℕ) : Type 0 where
  -- "the second, fifth and so on enter its callee", and no other does
  pub entering : k % 3 ≡ 1 → (vs : List ℕ) × (x ≡ does (enters f vs))
  pub entered : (g : ℕ) (vs : List ℕ) → x ≡ does (enters g vs) → (k % 3 ≡ 1) × (g ≡ f)
  -- "the third, sixth and so on leave it", and no other does
  pub leaving : k % 3 ≡ 2 → (v : ℕ) × (x ≡ does (leaves f v))
  pub left : (g v : ℕ) → x ≡ does (leaves g v) → (k % 3 ≡ 2) × (g ≡ f)

-- under any tags, other ones than the start's too and changing at every step, and the start's table at each; s is the state of a start with
-- these arguments
pub record UnderAnyTags (t args : List ℕ) (s : State512) (asked : List (Ask (List ℕ))) : Type 0 where
  -- a function was entered once more than it was left while it has an occupant, else as often
  pub balance : (f : ℕ) → 1 ≤ f → f ≤ functions t → entries_of t f (plays_of t s asked).nodes
      ≡ leavings_of t f (plays_of t s asked).nodes + pick (eqb (entry (plays_of t s asked).state.occupant 0 f) 0) 0 1
  -- the count and the rules agree: of the steps taken at a call, those that enter and those that leave
  pub phases : (c f : ℕ) → 1 ≤ c → c ≤ nodes t → calls (expr_at t c) f ≡ true
      → (tags : List ℕ) → Possible t tags (plays_of t s asked).state c
      → Phases (act_of t (plays_of t s asked).state c) f (count c (plays_of t s asked).nodes)
  -- main has answered exactly if its root is done, and with its value
  pub answered_done : (v : ℕ) → Answers (plays_of t s asked) v → MainDone t (plays_of t s asked).state
      × (main_value t (plays_of t s asked).state ≡ v)
  pub done_answered : MainDone t (plays_of t s asked).state → Answers (plays_of t s asked) (main_value t (plays_of t s asked).state)
  -- main has answered, or some step would be taken next
  pub lively : (F N : ℕ) (tags : List ℕ) → check_with t tags ≡ accepted F N
      → ((v : ℕ) × Answers (plays_of t s asked) v) ⊎ ((n : ℕ) × Possible t tags (plays_of t s asked).state n)
  -- a step whose own tags hold the arbiter list is not refused 23, whatever the tags before it were
  pub arbitrated : (tags : List ℕ) → Holding t tags → (n place : ℕ)
      → (step_of t tags (plays_of t s asked).state n).answer ≡ denied 23 place → ⊥
  -- 24 is never met
  pub stands : (F N : ℕ) (tags : List ℕ) → check_with t tags ≡ accepted F N
      → standing t tags (plays_of t s asked).state ≡ accepted (functions t) (nodes t)
  -- nobody enters main
  pub main_free : entry (plays_of t s asked).state.occupant 0 (functions t) ≡ 0
  -- main's value and count are the reading's
  pub right : (v : ℕ) → Answers (plays_of t s asked) v → ReadsTo t args v (length (plays_of t s asked).nodes)
  -- without a reading there is no answer
  pub never : ((v k : ℕ) → ReadsTo t args v k → ⊥) → (v : ℕ) → Answers (plays_of t s asked) v → ⊥
  -- after the answer every step at a node is refused 20
  pub over : (v n F N : ℕ) (tags : List ℕ) → Answers (plays_of t s asked) v → 1 ≤ n → n ≤ nodes t → check_with t tags ≡ accepted F N
      → step_of t tags (plays_of t s asked).state n ≡ refusal (plays_of t s asked).state 20 n

-- two states that have the same entries at the nodes of P and the functions of Q
pub record Agree (P Q : ℕ → Type 0) (s s' : View) : Type 0 where
  pub status : (n : ℕ) → P n → s.status n ≡ s'.status n
  pub second : (n : ℕ) → P n → s.second n ≡ s'.second n
  pub value : (n : ℕ) → P n → s.value n ≡ s'.value n
  pub register : (f i : ℕ) → Q f → s.register f i ≡ s'.register f i
  pub occupant : (f : ℕ) → Q f → s.occupant f ≡ s'.occupant f

-- up to N and F
abbrev pub AgreeWithin : (t : List ℕ) → State512 → State512 → Type 0
AgreeWithin t s s' = Agree (λ n. (1 ≤ n) × (n ≤ nodes t)) (λ f. (1 ≤ f) × (f ≤ functions t)) (view s) (view s')

-- past N and F
abbrev pub AgreePast : (t : List ℕ) → State512 → State512 → Type 0
AgreePast t s s' = Agree (λ n. nodes t < n) (λ f. functions t < f) (view s) (view s')

-- a run over the list ms, after steps asked at the numbers `ns` from a start, and what it tells
-- what it took are steps since the start like any others, as many as it tells
pub record RunDemand (t tags : List ℕ) (s : State512) (ns ms : List ℕ) (r : Ran) : Type 0 where
  pub state : r.state ≡ (play_of t tags s (ns ++ take r.steps ms)).state
  pub steps : (play_of t tags s (ns ++ take r.steps ms)).nodes ≡ (play_of t tags s ns).nodes ++ take r.steps ms
  pub number : r.steps ≡ length (take r.steps ms)

-- a run with a budget, after steps asked at the numbers `ns` from a start; it picks the steps `picked`
pub record DriveDemand (t tags args : List ℕ) (s : State512) (ns : List ℕ) (r : Driven) : Type 0 where
  pub picked : List ℕ
  -- what it picked are steps since the start like any others, as many as it tells
  pub state : r.state ≡ (play_of t tags s (ns ++ picked)).state
  pub steps : (play_of t tags s (ns ++ picked)).nodes ≡ (play_of t tags s ns).nodes ++ picked
  pub number : r.steps ≡ length picked
  -- its answer is the reading's, and all steps since the start are its count
  pub right : (v : ℕ) → r.ended ≡ gave v → ReadsTo t args v (length (play_of t tags s ns).nodes + r.steps)
  -- it never says at rest: before main answers some step is possible, and an answer is looked at first
  pub never_rests : r.ended ≡ at_rest → ⊥
  pub never_barred : (number place : ℕ) → r.ended ≡ barred number place → ⊥

-- "Values are 32-bit"
abbrev pub Word : ℕ → Type 0
Word v = v < 2 ^ 32

abbrev pub Words : List ℕ → Type 0
Words l = (i : ℕ) → Word (get_or l i 0)

-- a table's bytes are below 256
abbrev pub Bytes : List ℕ → Type 0
Bytes t = (i : ℕ) → get_or t i 0 < 256

-- values and registers are 32-bit
pub record Fits (s : State512) : Type 0 where
  pub value : Words s.value
  pub registers : Words s.registers

-- every accepted table starts with its own list and main's number of arguments
abbrev pub OwnStart : Type 0
OwnStart = (t args : List ℕ) (F N : ℕ) → check_of t ≡ accepted F N → length args ≡ params t (functions t)
    → start_of t (tags_of t) args ≡ started (opening t args)

-- under K, the reading of each function is its body's, read with what K says of the callees, whichever they are
abbrev pub ByBodies : (t : List ℕ) → Readings → Type 0
ByBodies t K = (f : ℕ) → Range (functions t) f → (vs : List ℕ) (v k : ℕ) → K f vs v k ↔ Rounds (arithmetic t) (body_of t) K f vs v k

-- the readings, defined callees first, are what the rules say of each function's body, and nothing else is
pub record ReadingFixed (t : List ℕ) : Type 1 where
  pub fixed : ByBodies t (readings_of t)
  pub only : (K : Readings) → ByBodies t K → (f : ℕ) → Range (functions t) f → (vs : List ℕ) (v k : ℕ)
      → K f vs v k ↔ readings_of t f vs v k

-- the reading's value is a word, where table and arguments are (by the widths, `ReadingBelow`, it is one in any case)
abbrev pub ReadingWord : Type 0
ReadingWord = (t args : List ℕ) (F N : ℕ) → check_of t ≡ accepted F N → Bytes t → Words args → (v k : ℕ) → ReadsTo t args v k → Word v

-- from a start with words every state is one of words, whatever the tags
abbrev pub FitsFromStart : Type 0
FitsFromStart = (t tags args : List ℕ) (s : State512) → start_of t tags args ≡ started s → Bytes t → Words args
    → (asked : List (Ask (List ℕ))) → Fits (plays_of t s asked).state

-- of every state, also one that no start leads to
pub record InAnyState (t tags : List ℕ) : Type 0 where
  -- two states that agree up to N and F get one answer from a step, and agree after it
  pub step_ignores : (s s' : State512) → Sized s → Sized s' → AgreeWithin t s s' → (n : ℕ)
      → ((step_of t tags s n).answer ≡ (step_of t tags s' n).answer) × AgreeWithin t (step_of t tags s n).state (step_of t tags s' n).state
  -- and a step keeps the entries past them
  pub step_keeps : (s : State512) → Sized s → (n : ℕ) → AgreePast t s (step_of t tags s n).state
  -- a refused step keeps the state
  pub refused_unchanged : (s : State512) (n k p : ℕ) → (step_of t tags s n).answer ≡ denied k p → step_of t tags s n ≡ refusal s k p
  -- a step keeps a state of words
  pub step_fits : Bytes t → (s : State512) → Fits s → (n : ℕ) → Fits (step_of t tags s n).state
  -- a query says none once main is done
  pub query_over : (s : State512) (F N : ℕ) → standing t tags s ≡ accepted F N → MainDone t s → (r : Found) → Finds t tags s r → r ≡ nothing
  -- where table, tags and 24 are passed, a run is a play up to its first refusal
  pub run_plays : (s : State512) (ns : List ℕ) (F N : ℕ) → standing t tags s ≡ accepted F N → RunPlays t tags s ns (run_of t tags s ns)

-- query and runs after steps asked at the numbers ns from a start; s is the state of a start with these arguments
pub record AfterSteps (t tags args : List ℕ) (s : State512) (ns : List ℕ) : Type 0 where
  -- a run over a list ms, and its steps as steps since the start
  pub start_run : (ms : List ℕ) → RunPlays t tags (play_of t tags s ns).state ms (run_of t tags (play_of t tags s ns).state ms)
  pub run_demand : (ms : List ℕ) → RunDemand t tags s ns ms (run_of t tags (play_of t tags s ns).state ms)
  -- a query says none only after the answer
  pub start_query : Finds t tags (play_of t tags s ns).state nothing → (v : ℕ) × Answers (play_of t tags s ns) v
  -- a run with a budget
  pub drive_demand : (budget : ℕ) (r : Driven) → Drives t tags (play_of t tags s ns).state budget r → DriveDemand t tags args s ns r

-- the query and the run with a budget that go by the first possible step, after steps asked at the numbers ns from a start
pub record FirstDemand (t tags args : List ℕ) (s : State512) (ns : List ℕ) : Type 0 where
  -- the query says none exactly if main has answered
  pub none : query_of t tags (play_of t tags s ns).state ≡ nothing → (v : ℕ) × Answers (play_of t tags s ns) v
  pub over : (v : ℕ) → Answers (play_of t tags s ns) v → query_of t tags (play_of t tags s ns).state ≡ nothing
  -- the run, and the steps that it picked are its trace
  pub run : (budget : ℕ) → DriveDemand t tags args s ns (drive_of t tags (play_of t tags s ns).state budget)
  pub picked : (budget : ℕ) → (run budget).picked
      ≡ firsts_of t tags (play_of t tags s ns).state (drive_of t tags (play_of t tags s ns).state budget).steps
