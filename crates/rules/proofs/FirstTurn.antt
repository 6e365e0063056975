-- a turn of the loop that keeps the sets: they tell the node, its move is made, they are updated; at the end they tell how the run stands
use Prim.Native.Nat.{ℕ, ◌+◌, ◌≤◌, ◌<◌}
use mathlib.Core.Bool.{false}
use mathlib.Core.Path.{◌≡◌, subst, sym, ap, ◌∙◌}
use mathlib.Core.List.{List}
use Rattle.table.specs.Bytes.{functions, nodes}
use Rattle.table.specs.Naming.{owner}
use Rattle.table.specs.Check.{accepted}
use Rattle.table.specs.Expressions.{body_of}
use Rattle.table.specs.Working.{IsNode}
use Rattle.list.specs.Tags.{check_with}
use Rattle.rules.specs.State.{State512, Sized}
use Rattle.rules.specs.Step.{does, Move, over, perform}
use Rattle.rules.specs.Circuit.{act_of}
use Rattle.rules.specs.Runs.{MainDone, main_value, gave, at_rest, spent}
use Rattle.rules.specs.First.{first_of, onward, drive_from}
use Rattle.rules.specs.Sets.{Sets, first_in, Exact}
use Rattle.rules.proofs.StepTaken.{one_move}
use Rattle.rules.proofs.Performed.{perform_sized}
use Rattle.rules.proofs.FirstFacts.{first_some, first_moves}
use Rattle.rules.proofs.FirstLoop.{Drove, drove_gave, drove_rests, drove_spent, drove_next}
use Rattle.rules.proofs.SetsExact.{exact_first}

-- k of the b steps from s₀ are made, s is the state, and x are its sets
pub record Turning (t tags : List ℕ) (s₀ s : State512) (b k : ℕ) (x : Sets) : Type 0 where
  pub drove : Drove t tags s₀ s b k
  pub exact : Exact t s x
  pub sized : Sized s
  pub statuses : over 3 (nodes t) s.status ≡ false
  pub occupants : over (nodes t) (functions t) s.occupant ≡ false

module _ (t tags : List ℕ) (F N : ℕ) (tagging : check_with t tags ≡ accepted F N) (s₀ s : State512) (b k : ℕ) (x : Sets)
    (now : Turning t tags s₀ s b k x) where
  -- the node that the sets tell
  abbrev here : ℕ
  here = first_in x (nodes t)

  pub turn_gave : MainDone t s → drive_from t tags s₀ b ≡ record { steps = k; ended = gave (main_value t s); state = s }
  turn_gave m = drove_gave t tags s₀ s b k now.drove m

  module _ (undone : MainDone t s → ⊥) where
    is_first : here ≡ first_of t tags s
    is_first = exact_first t tags s F N tagging now.statuses now.occupants undone x now.exact

    pub turn_rests : here ≡ 0 → drive_from t tags s₀ b ≡ record { steps = k; ended = at_rest; state = s }
    turn_rests z = drove_rests t tags s₀ s b k now.drove undone (sym is_first ∙ z)

    module _ (some : here ≡ 0 → ⊥) where
      not_none : first_of t tags s ≡ 0 → ⊥
      not_none z = some (is_first ∙ z)

      pub turn_spent : b ≤ k → drive_from t tags s₀ b ≡ record { steps = k; ended = spent; state = s }
      turn_spent h = drove_spent t tags s₀ s b k now.drove undone not_none h

      -- the node has a move
      pub turn_moves : IsNode t here × ((a : Move) × (act_of t s here ≡ does a)
          × (onward t tags s ≡ perform (nodes t) (owner t) (body_of t) s here a))
      turn_moves = subst (λ n. IsNode t n × ((a : Move) × (act_of t s n ≡ does a)
          × (onward t tags s ≡ perform (nodes t) (owner t) (body_of t) s n a))) (sym is_first)
          ((first_some t tags s not_none).node, first_moves t tags s not_none)

      -- it is made, and the sets are those of the state after it
      pub turn_next : k < b → (a : Move) → act_of t s here ≡ does a → (s' : State512)
          → s' ≡ perform (nodes t) (owner t) (body_of t) s here a
          → over 3 (nodes t) s'.status ≡ false → over (nodes t) (functions t) s'.occupant ≡ false
          → (y : Sets) → Exact t s' y → Turning t tags s₀ s' b (k + 1) y
      turn_next h a e s' q p o y exact =
          let w = turn_moves in
          let i : w.1.0 ≡ a = one_move w.1.0 a (sym w.1.1 ∙ e) in
          let z : onward t tags s ≡ s' = w.1.2 ∙ ap (perform (nodes t) (owner t) (body_of t) s here) i ∙ sym q in
          record {
            drove = subst (λ v. Drove t tags s₀ v b (k + 1)) z (drove_next t tags s₀ s b k now.drove undone not_none h);
            exact = exact;
            sized = subst Sized (sym q) (perform_sized (nodes t) (owner t) s now.sized (body_of t) here a);
            statuses = p;
            occupants = o;
          }
