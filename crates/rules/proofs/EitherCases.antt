-- two hands on small designs: steps in either order, rivals, and three premises without which the statement is false
use Prim.Native.Nat.{ℕ}
use mathlib.Core.Path.{◌≡◌, refl, ap}
use mathlib.Core.List.{List, [], ◌∷◌}
use native.Mathlib.Omega.{arith}
use Rattle.table.specs.Check.{accepted}
use Rattle.table.specs.Designs.{twice, pair, fir}
use Rattle.rules.specs.State.{State512, Sized, entry}
use Rattle.rules.specs.Step.{does, begins, finishes, enters, taken, answered, denied}
use Rattle.rules.specs.Circuit.{started, start_of, step_of, play_of, Possible}
use Rattle.rules.specs.Runs.{standing}
use Rattle.rules.specs.EitherOrder.{Rivals, TwoSteps, TwoHands, EitherOrder}
use Rattle.rules.proofs.Cases.{both, from, circuit_open}
use Rattle.rules.proofs.OddStates.{status_at, second_at}
use Rattle.rules.proofs.EitherOrder.{refused_second, either_order_reached}

-- f(x) = x; main(x) = f(f(x)), whose list is empty; main(x) = beside(f(x), f(x)), whose list is {3, 5}; and the filter, with an empty one
abbrev no_tags : List ℕ
no_tags = 0 ∷ []

abbrev fir_tags : List ℕ
fir_tags = 0 ∷ 0 ∷ 0 ∷ 0 ∷ 0 ∷ []

-- the state after steps at ns
abbrev pair_after : List ℕ → State512
pair_after ns = (play_of pair both (from pair both (9 ∷ [])) ns).state

abbrev fir_after : List ℕ → State512
fir_after ns = (play_of fir fir_tags (from fir fir_tags (1 ∷ 2 ∷ 3 ∷ 4 ∷ [])) ns).state

-- a move that enters nothing, one that enters another function
not_begins : (ns vs : List ℕ) (g : ℕ) → does (begins ns) ≡ does (enters g vs) → ⊥
not_begins ns vs g e = let z : ◌≡◌ {A = ℕ} 0 1 = cc in omega arith

not_finishes : (v : ℕ) (vs : List ℕ) (g : ℕ) → does (finishes v) ≡ does (enters g vs) → ⊥
not_finishes v vs g e = let z : ◌≡◌ {A = ℕ} 0 1 = cc in omega arith

one_callee : (f g : ℕ) (vs ws : List ℕ) → does (enters f vs) ≡ does (enters g ws) → f ≡ g
one_callee f g vs ws e = cc

-- the two parameters, once both calls have begun
arguments : EitherOrder pair both (pair_after (2 ∷ 3 ∷ 5 ∷ [])) 4 6
unfolding circuit_open
arguments = either_order_reached pair both (9 ∷ []) _ refl (2 ∷ 3 ∷ 5 ∷ []) 4 6 (record {
  two = record { different = λ e. omega arith; a_steps = tt; b_steps = tt };
  no_rivals = λ r. not_finishes 9 r.1.0 r.0 r.1.1;
})

-- one call enters f while the other's parameter is read
entering : EitherOrder pair both (pair_after (2 ∷ 3 ∷ 5 ∷ 4 ∷ [])) 3 6
unfolding circuit_open
entering = either_order_reached pair both (9 ∷ []) _ refl (2 ∷ 3 ∷ 5 ∷ 4 ∷ []) 3 6 (record {
  two = record { different = λ e. omega arith; a_steps = tt; b_steps = tt };
  no_rivals = λ r. not_finishes 9 r.2.0 r.0 r.2.1;
})

-- both enter, but not one resource: 10 calls function 1, 13 function 2
abbrev to_calls : List ℕ
to_calls = 9 ∷ 10 ∷ 13 ∷ 11 ∷ 12 ∷ 14 ∷ 15 ∷ []

two_resources : EitherOrder fir fir_tags (fir_after to_calls) 10 13
unfolding circuit_open
two_resources = either_order_reached fir fir_tags (1 ∷ 2 ∷ 3 ∷ 4 ∷ []) _ refl to_calls 10 13 (record {
  two = record { different = λ e. omega arith; a_steps = tt; b_steps = tt };
  no_rivals = λ r. omega (arith, one_callee 1 r.0 _ _ r.1.1, one_callee 2 r.0 _ _ r.2.1);
})

-- the calls 3 and 5 with their arguments done are rivals: whoever is second waits at its arbiter
rivals : Rivals pair (pair_after (2 ∷ 3 ∷ 5 ∷ 4 ∷ 6 ∷ [])) 3 5
unfolding circuit_open
rivals = (1, (9 ∷ [], refl), (9 ∷ [], refl))

second_waits : ((play_of pair both (pair_after (2 ∷ 3 ∷ 5 ∷ 4 ∷ 6 ∷ [])) (3 ∷ 5 ∷ [])).answers ≡ taken ∷ denied 22 5 ∷ [])
    × ((play_of pair both (pair_after (2 ∷ 3 ∷ 5 ∷ 4 ∷ 6 ∷ [])) (5 ∷ 3 ∷ [])).answers ≡ taken ∷ denied 22 3 ∷ [])
unfolding circuit_open
second_waits = (refl, refl)

-- "not both entering one resource" is needed ..
needs_no_rivals : ((t tags args : List ℕ) (s : State512) → start_of t tags args ≡ started s → (ns : List ℕ) (a b : ℕ)
    → TwoSteps t tags (play_of t tags s ns).state a b → EitherOrder t tags (play_of t tags s ns).state a b) → ⊥
unfolding circuit_open
needs_no_rivals wrong = refused_second (wrong pair both (9 ∷ []) _ refl (2 ∷ 3 ∷ 5 ∷ 4 ∷ 6 ∷ []) 3 5
    (record { different = λ e. omega arith; a_steps = tt; b_steps = tt })).a_then_b

-- .. "different" too: node 2 of a start steps, and then has no step ..
needs_different : ((t tags args : List ℕ) (s : State512) → start_of t tags args ≡ started s → (ns : List ℕ) (a b : ℕ)
    → Possible t tags (play_of t tags s ns).state a → Possible t tags (play_of t tags s ns).state b
    → (Rivals t (play_of t tags s ns).state a b → ⊥) → EitherOrder t tags (play_of t tags s ns).state a b) → ⊥
unfolding circuit_open
needs_different wrong = refused_second (wrong twice no_tags (9 ∷ []) _ refl [] 2 2 tt tt
    (λ r. not_begins (3 ∷ []) r.1.0 r.0 r.1.1)).a_then_b

-- .. and the start: in a state of the right size and in range, where 2 and its child 3 are both open, both orders are taken and end apart
abbrev both_open : State512
both_open = status_at 3 1 (from twice no_tags (9 ∷ []))

needs_start : ((t tags : List ℕ) (s : State512) (F N : ℕ) → Sized s → standing t tags s ≡ accepted F N → (a b : ℕ)
    → TwoHands t tags s a b → EitherOrder t tags s a b) → ⊥
unfolding circuit_open
needs_start wrong = ends_apart (ap (λ s. entry s.status 0 3) (wrong twice no_tags both_open 2 4 sized refl 2 3 hands).same)
  where
    sized : Sized both_open
    sized = record { statuses = refl; seconds = refl; valued = refl; registered = refl; occupied = refl }

    hands : TwoHands twice no_tags both_open 2 3
    hands = record {
      two = record { different = λ e. omega arith; a_steps = tt; b_steps = tt };
      no_rivals = λ r. not_begins (3 ∷ []) r.1.0 r.0 r.1.1;
    }

    ends_apart : ◌≡◌ {A = ℕ} 2 1 → ⊥
    ends_apart e = omega arith

-- further states that no start leads to: a call in its second phase, 5 of `pair` or 2 of `twice`, that doesn't occupy f
abbrev inside : State512
inside =
    let s = from pair both (9 ∷ []) in
    second_at 5 (status_at 1 3 (status_at 2 2 (status_at 3 2 (status_at 4 3 (status_at 5 2 (status_at 6 3 s))))))

abbrev leaving : State512
leaving = second_at 2 (status_at 1 3 (status_at 2 2 (status_at 3 2 (status_at 4 3 (from twice no_tags (9 ∷ []))))))

-- one order is refused: 3 makes f new, whose root 5 needs done ..
one_refused : ((play_of pair both inside (3 ∷ 5 ∷ [])).answers ≡ taken ∷ denied 21 5 ∷ [])
    × ((play_of pair both inside (5 ∷ 3 ∷ [])).answers ≡ taken ∷ taken ∷ [])
unfolding circuit_open
one_refused = (refl, refl)

-- .. or a step is main's answer while another is possible: 2 leaves f, and 3 could enter it
answer_beside : ((step_of twice no_tags leaving 2).answer ≡ answered 0) × Possible twice no_tags leaving 3
unfolding circuit_open
answer_beside = (refl, tt)
