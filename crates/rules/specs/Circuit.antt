-- start, step and play over the bytes of a table and of tags, with the refusals in document 01's order, and 26 where document 02 has it
use Rattle.std.specs.Prelude.{ℕ, true, List, eqb, length}
use Rattle.rules.specs.State.{State512, view, circuit_start}
use Rattle.rules.specs.Step.{Act, act, Stepped, refusal, circuit_step}
use Rattle.rules.specs.Play.{Ask, asks, Log, IsTaken, played, entries, leavings}
use Rattle.rules.specs.Arithmetic.{keep_all, arithmetic}
use Rattle.table.specs.Bytes.{functions, nodes, params}
use Rattle.table.specs.Naming.{owner}
use Rattle.table.specs.Check.{Verdict, accepted, refused, stage}
use Rattle.table.specs.Expressions.{expr_at, body_of}
use Rattle.list.specs.Tags.{tagged, after, check_with, missing}

-- a start's answer
pub data Started : Type 0 where
  started : State512 → Started
  turned : (number place : ℕ) → Started

-- what a start looks at: the table, its tags, then 11, one argument for each of main's parameters, and last 26, a tag at each listed call
unfoldable pub check_start : List ℕ → List ℕ → List ℕ → Verdict
check_start t tags args = after (check_with t tags) λ _.
    stage 11 (eqb (length args) (params t (functions t))) 0 λ _.
    stage 26 true (missing t tags) λ _.
    accepted (functions t) (nodes t)

unfoldable pub start_after : Verdict → State512 → Started
start_after (accepted F N) s = started s
start_after (refused number place) s = turned number place

-- the state that a start makes: in main's registers the arguments as main keeps them
abbrev pub opening : (t args : List ℕ) → State512
opening t args = circuit_start (functions t) (body_of t) (keep_all (arithmetic t) (functions t) args)

unfoldable pub start_of : (t tags args : List ℕ) → Started
start_of t tags args = start_after (check_start t tags args) (opening t args)

-- the state after a start that was asked for in the state `old`: refused, it is `old`
abbrev pub state_of : Started → State512 → State512
state_of (started s) old = s
state_of (turned number place) old = old

-- the step that node n has in state s
abbrev pub act_of : (t : List ℕ) → State512 → ℕ → Act
act_of t s n = act (arithmetic t) (body_of t) (owner t n) (view s) (expr_at t n)

-- the circuit of a table, whatever was checked: 12, 24, 20, then 21 to 23
unfoldable pub circuit_of : (t tags : List ℕ) → State512 → ℕ → Stepped
circuit_of t tags s n = circuit_step (arithmetic t) (functions t) (nodes t) (body_of t) (expr_at t) (owner t) (tagged tags) s n

unfoldable pub step_after : Verdict → State512 → Stepped → Stepped
step_after (accepted F N) s r = r
step_after (refused number place) s r = refusal s number place

-- a step asked at n in state s: the table and its tags, then what the circuit says
unfoldable pub step_of : (t tags : List ℕ) → State512 → ℕ → Stepped
step_of t tags s n = step_after (check_with t tags) s (circuit_of t tags s n)

-- a step asked at n in state s would be taken
abbrev pub Possible : (t tags : List ℕ) → State512 → ℕ → Type 0
Possible t tags s n = IsTaken (step_of t tags s n).answer

-- steps asked one after the other, under one table and each with tags of its own
unfoldable pub plays_of : (t : List ℕ) → State512 → List (Ask (List ℕ)) → Log
plays_of t s asked = played (step_of t) s asked

-- a list of numbers, "0 and above N too", asked under one tag list
unfoldable pub play_of : (t tags : List ℕ) → State512 → List ℕ → Log
play_of t tags s ns = played (step_of t) s (asks tags ns)

-- a resource's entries and leavings among the steps taken, function f
unfoldable pub entries_of : (t : List ℕ) → ℕ → List ℕ → ℕ
entries_of t f ns = entries (nodes t) (expr_at t) f ns

unfoldable pub leavings_of : (t : List ℕ) → ℕ → List ℕ → ℕ
leavings_of t f ns = leavings (nodes t) (expr_at t) f ns
