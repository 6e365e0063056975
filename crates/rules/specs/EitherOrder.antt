-- two hands on one circuit (document 02, Q-6): when it doesn't matter which of two nodes steps first, and what happens when it does
use Rattle.std.specs.Prelude.{ℕ, ◌≡◌, true, List, [], ◌∷◌}
use Rattle.table.specs.Pick.{pick}
use Rattle.list.specs.Tags.{tagged, Holding}
use Rattle.rules.specs.State.{State512}
use Rattle.rules.specs.Step.{does, enters, taken, answered, denied}
use Rattle.rules.specs.Circuit.{started, start_of, step_of, play_of, act_of, Possible}

-- the step that node n has enters resource g
abbrev pub EntersAt : (t : List ℕ) → State512 → (n g : ℕ) → Type 0
EntersAt t s n g = (vs : List ℕ) × (act_of t s n ≡ does (enters g vs))

-- "both entering one resource"
abbrev pub Rivals : (t : List ℕ) → State512 → (a b : ℕ) → Type 0
Rivals t s a b = (g : ℕ) × EntersAt t s a g × EntersAt t s b g

-- "two different nodes that both have a step": a step asked for at each would be taken
pub record TwoSteps (t tags : List ℕ) (s : State512) (a b : ℕ) : Type 0 where
  pub different : a ≡ b → ⊥
  pub a_steps : Possible t tags s a
  pub b_steps : Possible t tags s b

-- .. "not both entering one resource"
pub record TwoHands (t tags : List ℕ) (s : State512) (a b : ℕ) : Type 0 where
  pub two : TwoSteps t tags s a b
  pub no_rivals : Rivals t s a b → ⊥

-- both orders are taken, with equal answers, and end in one state: a then b, and b then a, from state s on
pub record EitherOrder (t tags : List ℕ) (s : State512) (a b : ℕ) : Type 0 where
  -- all four steps are taken, and none is main's answer
  pub a_then_b : (play_of t tags s (a ∷ b ∷ [])).answers ≡ taken ∷ taken ∷ []
  pub b_then_a : (play_of t tags s (b ∷ a ∷ [])).answers ≡ taken ∷ taken ∷ []
  -- equal in every entry, past N and F too
  pub same : (play_of t tags s (a ∷ b ∷ [])).state ≡ (play_of t tags s (b ∷ a ∷ [])).state

-- a enters; b then waits, 22 or 23 by its tag, and the state stays as a left it
pub record SecondWaits (t tags : List ℕ) (s : State512) (a b : ℕ) : Type 0 where
  pub answers : (play_of t tags s (a ∷ b ∷ [])).answers ≡ taken ∷ denied (pick (tagged tags b) 22 23) b ∷ []
  pub state : (play_of t tags s (a ∷ b ∷ [])).state ≡ (play_of t tags s (a ∷ [])).state

-- what is shown of state s, whichever nodes have a step there
pub record WhoGoesFirst (t tags : List ℕ) (s : State512) : Type 0 where
  pub either : (a b : ℕ) → TwoHands t tags s a b → EitherOrder t tags s a b
  -- rivals never go in either order
  pub only : (a b : ℕ) → TwoSteps t tags s a b → EitherOrder t tags s a b → Rivals t s a b → ⊥
  -- a step that is main's answer is the only one that is possible
  pub alone : (n m v : ℕ) → (step_of t tags s n).answer ≡ answered v → Possible t tags s m → n ≡ m
  -- of two rivals the one that comes second waits, whichever that is
  pub waits : (a b : ℕ) → TwoSteps t tags s a b → Rivals t s a b → SecondWaits t tags s a b × SecondWaits t tags s b a
  -- and where the tags hold the arbiter list, both have a tag, so it meets 22
  pub arbitrated : Holding t tags → (a b : ℕ) → TwoSteps t tags s a b → Rivals t s a b → (tagged tags a ≡ true) × (tagged tags b ≡ true)

-- the request's sentence, the start's table and tags at every step; that tags hold the arbiter list, which it asks for, every start sees to
abbrev pub EitherOrderReached : Type 0
EitherOrderReached = (t tags args : List ℕ) (s : State512) → start_of t tags args ≡ started s
    → (ns : List ℕ) (a b : ℕ) → TwoHands t tags (play_of t tags s ns).state a b → EitherOrder t tags (play_of t tags s ns).state a b
