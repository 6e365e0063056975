-- for a reader: the theorems, then closed cases
pub mod Theorems
pub mod Cases
pub mod StartCases
pub mod OddStates
pub mod OperationCases
pub mod WidthCases
pub mod FirstCases
pub mod ReachCases
pub mod EitherCases
-- from bytes to the abstract circuit: the demand over tables, the own list, any state, the runs, 32-bit values, two hands
pub mod Starts
pub mod Demands
pub mod AnyState
pub mod RunFacts
pub mod TakenSteps
pub mod Fits
pub mod EveryState
pub mod OutOfReach
pub mod SameSteps
pub mod SpareTags
pub mod EitherOrder
-- widths: reduced operands, the values that a reading meets, and those that a circuit holds
pub mod Narrow
pub mod MetFacts
pub mod MetBelow
pub mod StatesBelow
-- the first possible step: what it is, and the query and run that follow it
pub mod FirstFacts
pub mod FirstRuns
pub mod FirstLoop
pub mod FirstDemand
-- the sets that it is read off: what the sort of a step rests on, what each move makes of the sets, and a turn of the loop that keeps them
pub mod Sorts
pub mod SortSame
pub mod Tells
pub mod SetsSteady
pub mod SetsOpening
pub mod SetsEnding
pub mod SetsRenewing
pub mod SetsHeld
pub mod SetsUpdated
pub mod Parents
pub mod FirstBySets
pub mod SetsExact
pub mod SetsBytes
pub mod FirstTurn
-- the step on lists: what a write reads as, what a move changes, the cases of a step, when it is refused, what it keeps
pub mod StateLaws
pub mod Performed
pub mod LaidFacts
pub mod ActCases
pub mod StepSound
pub mod Numbered
pub mod Bounded
pub mod StepTaken
pub mod StepCases
pub mod StepFacts
-- states that agree: what a node's step reads, what a move writes, and two moves that write apart end equal in either order
pub mod AgreeLaws
pub mod ListsAgree
pub mod MovesAgree
pub mod ActSame
pub mod Ignores
pub mod Touches
pub mod Past
pub mod StatesSame
pub mod Commute
-- two hands: a node that has a step, what its move touches, and two of them
pub mod Ready
pub mod Definiens
pub mod Mover
pub mod MoversApart
pub mod BothWays
pub mod RivalsWait
-- lists of steps: each call's three phases, entries minus leavings, the start, what every list keeps
pub mod Thirds
pub mod Occupied
pub mod Phases
pub mod StartFacts
pub mod Logs
pub mod Kept
-- the abstract circuit: its states and moves, and what is left to read
pub mod Shape
pub mod Branches
pub mod Frame
pub mod Within
pub mod Sees
pub mod Left
pub mod LeftFacts
pub mod Moves
pub mod Counts
pub mod Places
pub mod SelfCalls
pub mod Mix
-- its invariant, and the four kinds of step that keep it
pub mod Invariant
pub mod Acting
pub mod Inner
pub mod Enter
pub mod Leave
pub mod Again
-- some node has a step; a call that waits is listed
pub mod Progress
pub mod Exclusive
pub mod ActiveReached
pub mod Collide
-- the whole rest falls by one with each step, and the answer is the reading's, which is unique
pub mod SumLaws
pub mod Remaining
pub mod Total
pub mod Answers
pub mod Levels
pub mod Unique
