-- two hands on one circuit (document 02, Q-6), said of what step returns in a state that was reached from a start
use Rattle.std.specs.Prelude.{◌≡◌, ℕ, List, [], ◌∷◌, ◌++◌, take}
use Rattle.rules.specs.Step.{taken, denied}
use Rattle.rules.specs.EitherOrder.{Rivals, TwoSteps, TwoHands}
use Rattle.circuit.specs.Meaning.{lists_of}
use Rattle.circuit.specs.Entries.{StepsOf, answers_of, last_state, Reached}
use Rattle.circuit.specs.declared.types.State.{State}
use Rattle.circuit.specs.declared.types.Stepped.{Stepped}

-- rs is what step returned at a and then at b, rs' what it returned at b and then at a, each time from state s on
abbrev pub BothOrders : (t tags : List ℕ) → State → (a b : ℕ) → (rs rs' : List Stepped) → Type 0
BothOrders t tags s a b rs rs' = StepsOf t tags s (a ∷ b ∷ []) rs × StepsOf t tags s (b ∷ a ∷ []) rs'

-- all four were taken, none with main's answer; both orders return one state, and it is reached by either
pub record OneEnd (t tags args steps : List ℕ) (s : State) (a b : ℕ) (rs rs' : List Stepped) : Type 0 where
  pub a_then_b : answers_of rs ≡ taken ∷ taken ∷ []
  pub b_then_a : answers_of rs' ≡ taken ∷ taken ∷ []
  pub same : last_state s rs ≡ last_state s rs'
  pub reached : Reached t tags args (steps ++ a ∷ b ∷ []) (last_state s rs)
  pub reached' : Reached t tags args (steps ++ b ∷ a ∷ []) (last_state s rs)

-- the first was taken, the second was refused 22 at its node, b, and returned the state that it was given
pub record SecondRefused (s : State) (b : ℕ) (rs : List Stepped) : Type 0 where
  pub answers : answers_of rs ≡ taken ∷ denied 22 b ∷ []
  pub state : last_state s rs ≡ last_state s (take 1 rs)

-- in a reached state, whatever step returned in both orders
abbrev pub OrderOfSteps : Type 0
OrderOfSteps = (t tags args steps : List ℕ) (s : State) → Reached t tags args steps s → (a b : ℕ) (rs rs' : List Stepped)
    → BothOrders t tags s a b rs rs' → TwoHands t tags (lists_of s) a b → OneEnd t tags args steps s a b rs rs'

-- and of rivals, each of which has a tag: a start saw to that
abbrev pub RivalsInOrder : Type 0
RivalsInOrder = (t tags args steps : List ℕ) (s : State) → Reached t tags args steps s → (a b : ℕ) (rs rs' : List Stepped)
    → BothOrders t tags s a b rs rs' → TwoSteps t tags (lists_of s) a b → Rivals t (lists_of s) a b
    → SecondRefused s b rs × SecondRefused s a rs'
