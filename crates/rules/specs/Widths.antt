-- what is claimed of widths (document 02, Q-2), once for any w: the order of reducing makes no difference to six operations, and no value
-- that the reading meets in a function, or that a started circuit holds for it, is 2^w or more
use Rattle.std.specs.Prelude.{ℕ, ◌≤◌, ◌≡◌, List, map}
use Rattle.table.specs.Syntax.{Expr, const, Sub}
use Rattle.table.specs.Pick.{Range}
use Rattle.table.specs.Bytes.{functions, nodes, width}
use Rattle.table.specs.Naming.{owner}
use Rattle.table.specs.Check.{accepted, check_of}
use Rattle.table.specs.Expressions.{body_of}
use Rattle.table.specs.Well.{Below}
use Rattle.rules.specs.Operations.{operate}
use Rattle.rules.specs.Arithmetic.{narrow, narrowed, arithmetic}
use Rattle.rules.specs.State.{State512, Sized, entry, register}
use Rattle.rules.specs.Play.{Ask}
use Rattle.rules.specs.Circuit.{started, start_of, step_of, plays_of}
use Rattle.rules.specs.Reading.{Readings, Rounds, ReadsTo}
use Rattle.rules.specs.Demand.{Answers}
use Rattle.rules.specs.Companions.{Words}
use Rattle.rules.specs.Met.{MetIn, MetBelow}

-- operations 0 to 5, add to double: reducing the operands before makes no difference to the reduced result
abbrev pub NarrowFirst : Type 0
NarrowFirst = (w op : ℕ) → op ≤ 5 → (vs : List ℕ) → Words vs
    → narrow w (operate op (map (narrow w) vs)) ≡ narrow w (operate op vs)

-- one function, its constants below 2^w: so is what any reading of its body meets, whatever its callees read to, and its value
abbrev pub FunctionBelow : Type 1
FunctionBelow = (bits_of : ℕ → ℕ) (body : ℕ → Expr) (K : Readings) (f : ℕ) → ((m v : ℕ) → Sub (const m v) (body f) → Below (bits_of f) v)
    → (vs : List ℕ) (v k : ℕ) (r : Rounds (narrowed bits_of) body K f vs v k)
    → MetIn bits_of (narrowed bits_of) body K (λ g us u j h. Unit {0}) f vs v k r × Below (bits_of f) v

-- a table: main's whole reading, its callees' too, each function by its own width; and main's value by main's
abbrev pub ReadingBelow : Type 0
ReadingBelow = (t args : List ℕ) (F N : ℕ) → check_of t ≡ accepted F N → (v k : ℕ) (h : ReadsTo t args v k)
    → MetBelow (width t) (arithmetic t) (body_of t) (functions t) (functions t) args v k h × Below (width t (functions t)) v

-- and so the circuit's answer, from any start and whatever the steps and tags
abbrev pub AnswerBelow : Type 0
AnswerBelow = (t tags args : List ℕ) (s : State512) → start_of t tags args ≡ started s → (asked : List (Ask (List ℕ))) (v : ℕ)
    → Answers (plays_of t s asked) v → Below (width t (functions t)) v

-- each node's value and each register fits the bits of its function
pub record FitsWidths (t : List ℕ) (s : State512) : Type 0 where
  pub value : (n : ℕ) → Range (nodes t) n → Below (width t (owner t n)) (entry s.value 0 n)
  pub registers : (f i : ℕ) → Range (functions t) f → Below (width t f) (register s.registers f i)

-- a step keeps such a state, also one that no start leads to ..
abbrev pub StepNarrow : Type 0
StepNarrow = (t tags : List ℕ) (s : State512) → Sized s → FitsWidths t s → (n : ℕ) → FitsWidths t (step_of t tags s n).state

-- .. so from a start, whatever the steps and tags, no entry of a function needs more than its bits
abbrev pub StatesBelow : Type 0
StatesBelow = (t tags args : List ℕ) (s : State512) → start_of t tags args ≡ started s → (asked : List (Ask (List ℕ)))
    → FitsWidths t (plays_of t s asked).state
