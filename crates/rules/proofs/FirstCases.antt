-- main(x)=beside(f(x), f(x)) by first steps; and the sets, case by case, in states that a start leads to and in others
use Prim.Native.Nat.{ℕ}
use mathlib.Core.Bool.{true, false}
use mathlib.Core.Path.{◌≡◌, refl}
use mathlib.Core.List.{List, [], ◌∷◌, ◌++◌}
use Rattle.table.specs.Designs.{header, function, node, twice, pair, mult}
use Rattle.table.specs.Find.{lowest}
use Rattle.rules.specs.State.{State512, write}
use Rattle.rules.specs.Step.{denied}
use Rattle.rules.specs.Circuit.{step_of, play_of}
use Rattle.rules.specs.Runs.{gave, at_rest, spent, barred, names, nothing, unasked}
use Rattle.rules.specs.First.{first_of, onward, after_first, firsts_of, query_of, drive_from, drive_of}
use Rattle.rules.specs.Sets.{Sets, sets_of, first_in}
use Rattle.rules.proofs.Cases.{from, circuit_open}
use Rattle.rules.proofs.OddStates.{status_at, second_at}

unfoldable pub first_open : Unit {0}
unfolding circuit_open lowest first_of onward after_first firsts_of query_of drive_from drive_of first_in
first_open = tt

-- a state with another value at node n
abbrev value_at : ℕ → ℕ → State512 → State512
value_at n v s = record {
  status = s.status;
  second = s.second;
  value = write s.value n v;
  registers = s.registers;
  occupant = s.occupant;
}

abbrev tags : List ℕ
tags = 0b0001_0100 ∷ []

abbrev start : State512
start = from pair tags (9 ∷ [])

-- the lower of two nodes: 3 and 5 once both are open
lower : query_of pair tags (play_of pair tags start (2 ∷ [])).state ≡ names 3
unfolding first_open
lower = refl

-- 3 and 5 are busy and wait for their arguments, 4 and 6, which are open; 4 is the lower
next_lower : query_of pair tags (play_of pair tags start (2 ∷ 3 ∷ 5 ∷ [])).state ≡ names 4
unfolding first_open
next_lower = refl

-- a lower call that waits at its callee is passed over: 5 is in f and can leave it, while 3, its argument done, is refused 22
passed_over : (query_of pair tags (play_of pair tags start (2 ∷ 3 ∷ 4 ∷ 5 ∷ 6 ∷ 5 ∷ 1 ∷ [])).state ≡ names 5)
    × ((step_of pair tags (play_of pair tags start (2 ∷ 3 ∷ 4 ∷ 5 ∷ 6 ∷ 5 ∷ 1 ∷ [])).state 3).answer ≡ denied 22 3)
unfolding first_open
passed_over = (refl, refl)

-- the whole run, and one that is a step short of it
all_of_it : ((drive_of pair tags start 13).steps ≡ 12) × ((drive_of pair tags start 13).ended ≡ gave 9)
unfolding first_open
all_of_it = (refl, refl)

short : ((drive_of pair tags start 11).steps ≡ 11) × ((drive_of pair tags start 11).ended ≡ spent)
unfolding first_open
short = (refl, refl)

-- just enough: the answer is looked at before the budget
enough : ((drive_of pair tags start 12).steps ≡ 12) × ((drive_of pair tags start 12).ended ≡ gave 9)
unfolding first_open
enough = (refl, refl)

-- no budget: before the first step it is spent, after the answer it tells the answer; then the query says none
no_budget : ((drive_of pair tags start 0).steps ≡ 0) × ((drive_of pair tags start 0).ended ≡ spent)
unfolding first_open
no_budget = (refl, refl)

afterwards : ((drive_of pair tags (after_first pair tags start 12) 0).steps ≡ 0)
    × ((drive_of pair tags (after_first pair tags start 12) 0).ended ≡ gave 9)
    × (query_of pair tags (after_first pair tags start 12) ≡ nothing)
unfolding first_open
afterwards = (refl, refl, refl)

-- at rest, with no budget too: nothing is open
resting : ((drive_of pair tags (status_at 2 0 start) 0).ended ≡ at_rest) × (query_of pair tags (status_at 2 0 start) ≡ nothing)
unfolding first_open
resting = (refl, refl)

-- the trace: main begins, then both calls are open, and the lower one goes first
trace : firsts_of pair tags start 12 ≡ (2 ∷ 3 ∷ 4 ∷ 3 ∷ 1 ∷ 3 ∷ 5 ∷ 6 ∷ 5 ∷ 1 ∷ 5 ∷ 2 ∷ [])
unfolding first_open
trace = refl

-- refused before anything else, the tags before 24
tags_first : query_of pair [] (status_at 4 4 start) ≡ unasked 10 0
unfolding first_open
tags_first = refl

no_query : query_of pair tags (status_at 4 4 start) ≡ unasked 24 0
unfolding first_open
no_query = refl

stray : (drive_of pair tags (status_at 4 4 start) 0).ended ≡ barred 24 0
unfolding first_open
stray = refl

-- The sets, move by move

-- a call that enters: waiting before, inside and nothing else after, and every call of its callee is held
abbrev entering : State512
entering = (play_of pair tags start (2 ∷ 3 ∷ 4 ∷ [])).state

before_entry : ((sets_of pair entering).waiting 3 ≡ true) × ((sets_of pair entering).inside 3 ≡ false)
    × ((sets_of pair entering).held 5 ≡ false)
unfolding first_open
before_entry = (refl, refl, refl)

after_entry :
    let x : Sets = sets_of pair (step_of pair tags entering 3).state in
    (x.waiting 3 ≡ false) × (x.inside 3 ≡ true) × (x.held 3 ≡ true) × (x.held 5 ≡ true)
unfolding first_open
after_entry = (refl, refl, refl, refl)

-- a body made new keeps which of its calls are held, from a start too: f(x)=x; g(x)=f(x) at node 2; main(x)=beside(f(x), g(x)),
-- where node 5 is in f when node 7 enters g
abbrev shared : List ℕ
shared =
    header 3 8 ++ function 1 1 ++ function 1 2 ++ function 1 4
    ++ node 2 0 0 0 0
    ++ node 4 0 1 3 0 ++ node 2 0 0 0 0
    ++ node 3 10 0 5 0 ++ node 4 0 1 6 7 ++ node 2 0 0 0 0 ++ node 4 0 2 8 0 ++ node 2 0 0 0 0

abbrev both_tags : List ℕ
both_tags = 0b0001_0010 ∷ []

member_held :
    let x : Sets = sets_of shared (play_of shared both_tags (from shared both_tags (9 ∷ [])) (4 ∷ 5 ∷ 6 ∷ 5 ∷ 7 ∷ 8 ∷ 7 ∷ [])).state in
    (x.inside 5 ≡ true) × (x.inside 7 ≡ true) × (x.armed 2 ≡ true) × (x.held 2 ≡ true)
unfolding first_open
member_held = (refl, refl, refl, refl)

-- an open call whose flag is set is inside as soon as it begins
flagged : (sets_of twice (step_of twice (0 ∷ []) (second_at 2 (from twice (0 ∷ []) (9 ∷ []))) 2).state).inside 2 ≡ true
unfolding first_open
flagged = refl

-- two calls inside f, its root done: when one leaves, the other can still leave
abbrev both_inside : State512
both_inside = status_at 1 3 (second_at 3 (status_at 3 2 (second_at 5 (status_at 5 2 start))))

one_leaves :
    let x : Sets = sets_of pair (step_of pair tags both_inside 3).state in
    (x.armed 3 ≡ false) × (x.armed 5 ≡ true) × (x.held 5 ≡ false)
unfolding first_open
one_leaves = (refl, refl, refl)

-- a call inside f, its root done, while another enters: it is armed no longer
abbrev overtaken : State512
overtaken = status_at 1 3 (status_at 4 3 (status_at 3 2 (second_at 5 (status_at 5 2 start))))

other_enters : ((sets_of pair overtaken).armed 5 ≡ true) × ((sets_of pair (step_of pair tags overtaken 3).state).armed 5 ≡ false)
unfolding first_open
other_enters = (refl, refl)

-- an if in second phase whose condition, node 2 of mult, is done only now: the value decides which branch is looked at
abbrev no_tags : List ℕ
no_tags = 0 ∷ 0 ∷ 0 ∷ []

abbrev late : State512
late =
    let s = from mult no_tags (3 ∷ 0 ∷ 7 ∷ []) in
    status_at 9 3 (second_at 1 (status_at 1 2 (status_at 2 2 (status_at 3 3 (status_at 6 3 (value_at 3 1 s))))))

other_branch : ((sets_of mult late).armed 1 ≡ false) × ((sets_of mult (step_of mult no_tags late 2).state).armed 1 ≡ true)
unfolding first_open
other_branch = (refl, refl)
