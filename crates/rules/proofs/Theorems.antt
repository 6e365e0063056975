-- the theorems on the circuit, for a reader: each statement is in specs/, its parts with the documents' words
use mathlib.Core.Path.{◌≡◌}
use mathlib.Core.List.{List}
use Prim.Native.Nat.{ℕ}
use Rattle.table.specs.Check.{accepted, check_of}
use Rattle.rules.specs.State.{State512}
use Rattle.rules.specs.Play.{Ask}
use Rattle.rules.specs.Circuit.{started, start_of, plays_of}
use Rattle.rules.specs.Demand.{ThirdDemand, ReadingUnique}
use Rattle.rules.specs.Companions.{UnderAnyTags, OwnStart, ReadingFixed, ReadingWord, FitsFromStart, InAnyState, AfterSteps}
use Rattle.rules.specs.Companions.{FirstDemand}
use Rattle.rules.specs.Starts.{StartsExactly}
use Rattle.rules.specs.SpareTags.{AlikeInReach, SpareBodies, SpareTags}
use Rattle.rules.specs.EitherOrder.{WhoGoesFirst, EitherOrderReached}
use Rattle.rules.specs.First.{FirstSteps}
use Rattle.rules.specs.Widths.{NarrowFirst, FunctionBelow, ReadingBelow, AnswerBelow, StepNarrow, StatesBelow}
use Rattle.rules.proofs.Demands as Demands
use Rattle.rules.proofs.Starts as Starts
use Rattle.rules.proofs.EveryState as EveryState
use Rattle.rules.proofs.SpareTags as SpareTags
use Rattle.rules.proofs.EitherOrder as EitherOrder
use Rattle.rules.proofs.RunFacts as RunFacts
use Rattle.rules.proofs.FirstDemand as FirstDemand
use Rattle.rules.proofs.Fits as FitsProof
use Rattle.rules.proofs.Narrow as Narrow
use Rattle.rules.proofs.MetBelow as Meets
use Rattle.rules.proofs.StatesBelow as StatesBelow

-- Demand 3, "one claim about the whole list of steps": for every table, tags and arguments that start takes, and every list ns of asked
-- numbers, which "may be empty or go on past the answer", "0 and above N too"
pub demand : ThirdDemand
demand = Demands.demand

-- the reading that it names is one value and one count
pub reading_unique : ReadingUnique
reading_unique = Demands.reading_unique

-- a start (document 02, Q-7): it takes exactly what passes the table, 10, 11 and 26, so that its tags hold the list
pub starts_exactly : (t tags args : List ℕ) → StartsExactly t tags args
starts_exactly = Starts.starts_exactly

-- and the table's own list starts it
pub own_start : OwnStart
own_start = Starts.own_start

-- the plain reading: each function's is its body's, and its value is a word
pub reading_fixed : (t : List ℕ) (F N : ℕ) → check_of t ≡ accepted F N → ReadingFixed t
reading_fixed = Demands.reading_fixed

pub reading_word : ReadingWord
reading_word = Meets.reading_word

-- widths, each claim once for any w: six operations don't tell whether their operands were reduced first ..
pub narrow_first : NarrowFirst
narrow_first = Narrow.narrow_first

-- .. and no value that is met in a function is 2^w or more: in one function, in a whole reading, and of the circuit's answer
pub function_below : FunctionBelow
function_below = Meets.function_below

pub reading_below : ReadingBelow
reading_below = Meets.reading_below

pub answer_below : AnswerBelow
answer_below = Meets.answer_below

-- .. nor is any that a started circuit holds for it
pub step_narrow : StepNarrow
step_narrow = StatesBelow.step_narrow

pub states_below : StatesBelow
states_below = StatesBelow.states_below

-- over steps from a start, "its table being the table of every step", the tags free to change at each
pub under_any_tags : (t tags args : List ℕ) (s : State512) → start_of t tags args ≡ started s → (asked : List (Ask (List ℕ)))
    → UnderAnyTags t args s asked
under_any_tags = Demands.under_any_tags

-- bodies that main doesn't reach (document 02, Q-5): from a start on they have no step and keep all entries, and their tags change nothing
-- that is asked ..
pub spare_bodies : (t tags args : List ℕ) (s : State512) → start_of t tags args ≡ started s → (asked : List (Ask (List ℕ)))
    → SpareBodies t s asked
spare_bodies = SpareTags.spare_bodies

-- .. nor do they change the start, or whether tags hold the list
pub spare_tags : (t tags tags' args : List ℕ) (F N : ℕ) → check_of t ≡ accepted F N → AlikeInReach t tags tags'
    → SpareTags t tags tags' args
spare_tags = SpareTags.spare_tags

-- two hands, either order (document 02, Q-6): after any steps from a start, which of two nodes may step first, and what rivals meet ..
pub either_order : (t tags₀ args : List ℕ) (s : State512) → start_of t tags₀ args ≡ started s
    → (asked : List (Ask (List ℕ))) (tags : List ℕ)
    → WhoGoesFirst t tags (plays_of t s asked).state
either_order = EitherOrder.either_order

-- .. and the request's own sentence
pub either_order_reached : EitherOrderReached
either_order_reached = EitherOrder.either_order_reached

pub fits : FitsFromStart
fits = FitsProof.fits_from_start

-- of every state, also one that no start leads to
pub in_any_state : (t tags : List ℕ) → InAnyState t tags
in_any_state = EveryState.in_any_state

-- query and runs, "The steps of a run are such steps"
pub after_steps : (t tags args : List ℕ) (s : State512) → start_of t tags args ≡ started s → (ns : List ℕ) → AfterSteps t tags args s ns
after_steps = RunFacts.after_steps

-- the first possible step, which the query names and the run with a budget follows (document 02, Q-3): in every state ..
pub first_steps : (t tags : List ℕ) (s : State512) → FirstSteps t tags s
first_steps = FirstDemand.first_steps

-- .. and after steps from a start: what the third demand says of this query and this run
pub first_demand : (t tags args : List ℕ) (s : State512) → start_of t tags args ≡ started s → (ns : List ℕ) → FirstDemand t tags args s ns
first_demand = FirstDemand.first_demand
