-- what the circuit's types mean: document 01's number and values for each case, and the state as lists
use Rattle.std.specs.Prelude.{◌≡◌, ℕ, Bool, List, map, Option, None, Some, Result, Ok, Err}
use Rattle.table.specs.Check.{if_accepted}
use Rattle.table.specs.Refusals.{number_of}
use Rattle.table.specs.declared.Node.{Node}
use Rattle.table.specs.declared.refusals.Refusal.{Refusal}
use Rattle.rules.specs.State.{State512}
use Rattle.rules.specs.Step.{Reply, taken, answered, denied, Stepped}
use Rattle.rules.specs.Circuit.{Started, started, turned, state_of}
use Rattle.rules.specs.Runs.{Halt, whole, stopped, Ran, Ended, gave, at_rest, spent, barred, Driven, Found, names, nothing, unasked}
use Rattle.rules.specs.Runs.{standing, run_of}
use Rattle.rules.specs.First.{drive_of}
use Rattle.circuit.specs.declared.types.State.{State}
use Rattle.circuit.specs.declared.types.Answer.{Answer}
use Rattle.circuit.specs.declared.types.Stepped.{Stepped as SteppedCode}
use Rattle.circuit.specs.declared.types.Started.{Started as StartedCode}
use Rattle.circuit.specs.declared.types.Ran.{Ran as RanCode}
use Rattle.circuit.specs.declared.types.Ended.{Ended as EndedCode}
use Rattle.circuit.specs.declared.types.Driven.{Driven as DrivenCode}

-- node numbers
abbrev pub numbers : List Node → List ℕ
numbers l = map (λ n. n.0) l

-- a state by its parts
abbrev pub state_as : List ℕ → List Bool → List ℕ → List ℕ → List ℕ → State512
state_as a b c d e = record { status = a; second = b; value = c; registers = d; occupant = e }

-- the state as lists of numbers
abbrev pub lists_of : State → State512
lists_of s = record {
  status = s.status;
  second = s.second;
  value = s.value;
  registers = s.registers;
  occupant = numbers s.occupant;
}

-- a step's answer, case by case
abbrev pub reply_of : Answer → Reply
reply_of Answer.Taken = taken
reply_of (Answer.Answered v) = answered v
reply_of (Answer.Refused k p) = denied (number_of k) p.0

-- a step's answer beside the state that it leaves in the lent arrays
abbrev pub stepped_as : Answer → State512 → Stepped
stepped_as a s = record { answer = reply_of a; state = s }

abbrev pub stepped_of : SteppedCode → Stepped
stepped_of r = record { answer = reply_of r.answer; state = lists_of r.state }

-- a start's state beside its answer
abbrev pub opening_of : Result (Unit {0}) Refusal → State512 → Started
opening_of (Ok u) s = started s
opening_of (Err r) s = turned (number_of r.reason) r.place.0

abbrev pub started_of : StartedCode → Started
started_of r = opening_of r.opening (lists_of r.state)

-- what a start answers and leaves in the lent arrays, which held the state `old`: refused, they stay as they were
pub record OpenedAs (old : State512) (a : Result (Unit {0}) Refusal) (s : State512) (x : Started) : Type 0 where
  pub answer : opening_of a s ≡ x
  pub state : s ≡ state_of x old

-- what a start that was handed the state `old` returns: its answer, and the state that goes with it, refused or not
pub record StartedAs (old : State) (r : StartedCode) (x : Started) : Type 0 where
  pub answer : started_of r ≡ x
  pub state : lists_of r.state ≡ state_of x (lists_of old)

-- how a run over a list ended, case by case
abbrev pub halt_of : Result (Unit {0}) Refusal → Halt
halt_of (Ok u) = whole
halt_of (Err r) = stopped (number_of r.reason) r.place.0

abbrev pub ran_of : RanCode → Ran
ran_of r = record { steps = r.steps; halt = halt_of r.halt; state = lists_of r.state }

-- what a run over a list answers and leaves where state s and a count `old` were lent: the state s' and the count k. Where table, tags or
-- 24 refuse, the count is kept, as the state is
pub record RanLent (t tags : List ℕ) (s : State512) (ns : List ℕ) (old : ℕ) (h : Result (Unit {0}) Refusal) (s' : State512)
    (k : ℕ) : Type 0 where
  pub halt : halt_of h ≡ (run_of t tags s ns).halt
  pub state : s' ≡ (run_of t tags s ns).state
  pub count : k ≡ if_accepted (standing t tags s) (run_of t tags s ns).steps old

-- how a run with a budget ended, case by case
abbrev pub ended_of : Result EndedCode Refusal → Ended
ended_of (Ok (EndedCode.Answered v)) = gave v
ended_of (Ok EndedCode.AtRest) = at_rest
ended_of (Ok EndedCode.Spent) = spent
ended_of (Err r) = barred (number_of r.reason) r.place.0

abbrev pub driven_of : DrivenCode → Driven
driven_of r = record { steps = r.steps; ended = ended_of r.ended; state = lists_of r.state }

-- what a run with a budget answers and leaves where state s and a count `old` were lent: the state s' and the count k. Where table, tags
-- or 24 refuse, the count is kept, as the state is
pub record DrivenLent (t tags : List ℕ) (s : State512) (budget old : ℕ) (e : Result EndedCode Refusal) (s' : State512)
    (k : ℕ) : Type 0 where
  pub ended : ended_of e ≡ (drive_of t tags s budget).ended
  pub state : s' ≡ (drive_of t tags s budget).state
  pub count : k ≡ if_accepted (standing t tags s) (drive_of t tags s budget).steps old

-- what a query found, case by case
abbrev pub found_of : Result (Option Node) Refusal → Found
found_of (Ok (Some n)) = names n.0
found_of (Ok None) = nothing
found_of (Err r) = unasked (number_of r.reason) r.place.0
