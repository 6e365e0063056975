-- the circuit's answers, and which call tags lack, as one number; and what each of the circuit's C functions returns and leaves
use Rattle.std.specs.Prelude.{ℕ, ◌≡◌, List}
use Rattle.rules.specs.State.{State512}
use Rattle.rules.specs.Step.{Reply, taken, answered, denied, Stepped}
use Rattle.rules.specs.Circuit.{Started, started, turned, state_of}
use Rattle.rules.specs.Runs.{Halt, whole, stopped, standing, run_of, Ended, gave, at_rest, spent, barred}
use Rattle.rules.specs.Runs.{Found, names, nothing, unasked}
use Rattle.rules.specs.First.{query_after, drive_of}
use Rattle.table.specs.Check.{if_accepted}
use Rattle.list.specs.Tags.{check_with, missing}
use Rattle.exports.specs.Codes.{refusal_code, value_code}

abbrev pub start_code : Started → ℕ
start_code (started s) = 0
start_code (turned number place) = refusal_code number place

abbrev pub reply_code : Reply → ℕ
reply_code taken = 0
reply_code (answered v) = value_code v
reply_code (denied number place) = refusal_code number place

abbrev pub found_code : Found → ℕ
found_code nothing = 0
found_code (names n) = value_code n
found_code (unasked number place) = refusal_code number place

-- what list_missing finds: the lowest listed call without a tag, or nothing; table and tags come first
abbrev pub missing_of : (t tags : List ℕ) → Found
missing_of t tags = query_after (check_with t tags) (missing t tags)

abbrev pub halt_code : Halt → ℕ
halt_code whole = 0
halt_code (stopped number place) = refusal_code number place

abbrev pub ended_code : Ended → ℕ
ended_code at_rest = 0
ended_code (gave v) = value_code v
ended_code (barred number place) = refusal_code number place
ended_code spent = 12884901888

-- what each C function returns and leaves in the state that it was lent: of a start x asked for in state s
pub record StartTold (x : Started) (s : State512) (r : ℕ) (s' : State512) : Type 0 where
  pub code : r ≡ start_code x
  pub state : s' ≡ state_of x s

-- of a step x
pub record StepTold (x : Stepped) (r : ℕ) (s' : State512) : Type 0 where
  pub code : r ≡ reply_code x.answer
  pub state : s' ≡ x.state

-- of a run over the list ns from state s: the count that was lent is `old` before and k after; where table, tags or 24 refuse it is kept
pub record RunTold (t tags : List ℕ) (s : State512) (ns : List ℕ) (old r k : ℕ) (s' : State512) : Type 0 where
  pub code : r ≡ halt_code (run_of t tags s ns).halt
  pub count : k ≡ if_accepted (standing t tags s) (run_of t tags s ns).steps old
  pub state : s' ≡ (run_of t tags s ns).state

-- of a run with a budget from state s, the count likewise
pub record DriveTold (t tags : List ℕ) (s : State512) (budget old r k : ℕ) (s' : State512) : Type 0 where
  pub code : r ≡ ended_code (drive_of t tags s budget).ended
  pub count : k ≡ if_accepted (standing t tags s) (drive_of t tags s budget).steps old
  pub state : s' ≡ (drive_of t tags s budget).state
