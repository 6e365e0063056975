-- states that no start leads to: the rules to the letter, on f(x) = x, main(x) = f(f(x)) and on mult
use Prim.Native.Nat.{ℕ}
use mathlib.Core.Path.{◌≡◌, refl, ap}
use mathlib.Core.List.{List, [], ◌∷◌}
use mathlib.Core.Bool.{true}
use Rattle.rules.specs.State.{State512, entry, write}
use Rattle.rules.specs.Step.{Reply, taken, answered, denied, with_status, with_second, with_occupant}
use Rattle.list.proofs.TagFacts.{tags_hold}
use Rattle.rules.specs.Play.{Ask}
use Rattle.rules.specs.Circuit.{started, start_of, plays_of, play_of, step_of}
use Rattle.rules.specs.Runs.{whole, stopped, run_of}
use Rattle.table.specs.Designs.{twice, mult}
use Rattle.rules.proofs.Demands.{under_any_tags}
use Rattle.rules.proofs.Cases.{from, circuit_open}

-- a state with another status at node n, another phase, another occupant
abbrev pub status_at : ℕ → ℕ → State512 → State512
status_at n v s = with_status s (write s.status n v)

abbrev pub second_at : ℕ → State512 → State512
second_at n s = with_second s (write s.second n true)

abbrev occupant_at : ℕ → ℕ → State512 → State512
occupant_at f c s = with_occupant s (write s.occupant f c)

-- main's root is node 2, a call of f; N is 4, F is 2
abbrev start : State512
start = from twice (0 ∷ []) (9 ∷ [])

abbrev says : State512 → List ℕ → List Reply
says s ns = (play_of twice (0 ∷ []) s ns).answers

-- 24 for a status over 3 or an occupant over N, after 12 and before 20; entries past N and F are not looked at
bad_status : says (status_at 2 3 (status_at 4 4 start)) (0 ∷ 2 ∷ 5 ∷ []) ≡ denied 12 0 ∷ denied 24 0 ∷ denied 12 0 ∷ []
unfolding circuit_open
bad_status = refl

bad_occupant : says (occupant_at 1 5 start) (2 ∷ []) ≡ denied 24 0 ∷ []
unfolding circuit_open
bad_occupant = refl

past : says (occupant_at 3 5 (status_at 5 4 start)) (2 ∷ []) ≡ taken ∷ []
unfolding circuit_open
past = refl

-- a run says 24 before the 12 of its first step, also over an empty list
run_first : (run_of twice (0 ∷ []) (status_at 4 4 start) (0 ∷ [])).halt ≡ stopped 24 0
unfolding circuit_open
run_first = refl

run_empty : (run_of twice (0 ∷ []) (status_at 4 4 start) []).halt ≡ stopped 24 0
unfolding circuit_open
run_empty = refl

run_nothing : run_of twice (0 ∷ []) start [] ≡ record { steps = 0; halt = whole; state = start }
unfolding circuit_open
run_nothing = refl

-- a busy parameter has no step, an idle call none, an open call steps whatever its flag, and keeps it
letter : says (second_at 2 (status_at 4 2 start)) (4 ∷ 3 ∷ 2 ∷ 2 ∷ []) ≡ denied 21 4 ∷ denied 21 3 ∷ taken ∷ denied 21 2 ∷ []
unfolding circuit_open
letter = refl

-- a call in its second phase leaves when its callee's root is done, whoever occupies it, and frees the resource
stranger : says (status_at 1 3 (occupant_at 1 3 (second_at 2 (status_at 2 2 start)))) (2 ∷ 2 ∷ []) ≡ answered 0 ∷ denied 20 2 ∷ []
unfolding circuit_open
stranger = refl

-- a self call ignores its flag and its function's occupant, which stays; node 10 of mult is the self call, 11, 13, 15 its arguments
abbrev ready : State512
ready =
    let s = from mult (0 ∷ 0 ∷ 0 ∷ []) (3 ∷ 0 ∷ 7 ∷ []) in
    occupant_at 1 10 (second_at 10 (status_at 10 2 (status_at 11 3 (status_at 13 3 (status_at 15 3 s)))))

self_call_lem : (play_of mult (0 ∷ 0 ∷ 0 ∷ []) ready (10 ∷ [])).answers ≡ taken ∷ []
unfolding circuit_open
self_call_lem = refl

self_stays : entry (step_of mult (0 ∷ 0 ∷ 0 ∷ []) ready 10).state.occupant 0 1 ≡ 10
unfolding circuit_open
self_stays = refl

-- 23 though the tags hold the list, which is empty: call 2 has its argument, and call 3, which is done, still occupies the callee
abbrev held_up : State512
held_up = occupant_at 1 3 (status_at 3 3 (status_at 2 2 start))

waits : (says held_up (2 ∷ []) ≡ denied 23 2 ∷ []) × ((play_of twice (0b0000_0110 ∷ []) held_up (2 ∷ [])).answers ≡ denied 22 2 ∷ [])
unfolding circuit_open
waits = (refl, refl)

-- so no start of this table leads there, whatever is asked under whatever tags
not_reached : (tags args : List ℕ) (s : State512) → start_of twice tags args ≡ started s → (asked : List (Ask (List ℕ)))
    → (plays_of twice s asked).state ≡ held_up → ⊥
unfolding circuit_open
not_reached tags args s e asked q =
    (under_any_tags twice tags args s e asked).arbitrated (0 ∷ []) (tags_hold twice 2 4 refl) 2 2
    (ap (λ z. (step_of twice (0 ∷ []) z 2).answer) q)
