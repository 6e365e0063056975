-- two hands on the circuit of a table: what is shown of two different nodes that both have a step, after any steps from a start
use Prim.Native.Nat.{ℕ}
use mathlib.Core.Bool.{true}
use mathlib.Core.Path.{◌≡◌, refl, subst, sym, ap, ◌∙◌}
use mathlib.Core.List.{List, [], ◌∷◌}
use native.Mathlib.Omega.{arith}
use native.Mathlib.Decide.{ℕ_discrete}
use Rattle.table.specs.Bytes.{functions, nodes}
use Rattle.table.specs.Check.{accepted, check_of}
use Rattle.table.specs.Expressions.{body_of}
use Rattle.list.specs.Tags.{tagged, check_with, Holding}
use Rattle.rules.specs.State.{State512, view}
use Rattle.rules.specs.Step.{does, Move, taken, answered, denied}
use Rattle.rules.specs.Play.{Ask, asks, IsTaken, played}
use Rattle.rules.specs.Arithmetic.{arithmetic}
use Rattle.rules.specs.Circuit.{started, start_of, step_of, plays_of, play_of, Possible}
use Rattle.rules.specs.EitherOrder.{Rivals, TwoSteps, TwoHands, EitherOrder, SecondWaits, WhoGoesFirst, EitherOrderReached}
use Rattle.rules.proofs.StepFacts.{Good, step}
use Rattle.rules.proofs.Starts.{start_passes, after_both}
use Rattle.rules.proofs.Demands.{ranges, standing_by, lay, step_same, holding_tags, table_kept}
use Rattle.rules.proofs.FirstFacts.{possible_node, possible_stands, possible_move}
use Rattle.rules.proofs.Kept.{waits_listed}
use Rattle.rules.proofs.Mover.{mover}
use Rattle.rules.proofs.MoversApart.{Movers}
use Rattle.rules.proofs.BothWays.{went, moved, unfinished_a, BothWays, both_ways}
use Rattle.rules.proofs.RivalsWait.{FirstEnters, first_enters}

pub refused_second : {k p : ℕ} → taken ∷ denied k p ∷ [] ≡ taken ∷ taken ∷ [] → ⊥
refused_second e = let z : ◌≡◌ {A = ℕ} 0 1 = cc in omega arith

-- in any sound state
module _ (t : List ℕ) (F N : ℕ) (check : check_of t ≡ accepted F N) (tags : List ℕ) (s : State512)
    (good : Good (functions t) (body_of t) s) where
  module _ (a b : ℕ) (two : TwoSteps t tags s a b) where
    -- both are moves of the circuit on lists
    hands : (x y : Move) × Movers (arithmetic t) (lay t F N check) (view s) a b x y
    hands =
        let x = possible_move t tags s a two.a_steps in
        let y = possible_move t tags s b two.b_steps in (
          x.0,
          y.0,
          record {
            one = mover good.sound (possible_node t tags s a two.a_steps) x.1;
            other = mover good.sound (possible_node t tags s b two.b_steps) y.1;
            different = two.different;
          },
        )

    -- the tags are taken, so each step is the circuit's
    circuit : (z : State512) (n : ℕ) → step_of t tags z n ≡ step (arithmetic t) (lay t F N check) (tagged tags) z n
    circuit z n =
        let p = sym (standing_by t tags s (check_with t tags) refl) ∙ possible_stands t tags s a two.a_steps in
        let c = (after_both (check_with t tags) (ranges t s) (functions t) (nodes t) p).0 in
        step_same t F N check tags c.0 c.1 c.2 z n

    -- the first isn't main's answer
    first_taken : (step_of t tags s a).answer ≡ taken
    first_taken = let h = hands.2 in ap (λ r. r.answer) (circuit s a ∙ moved (tagged tags) s good h.one (unfinished_a s good h))

  -- two steps, one after the other, of which the first isn't main's answer
  pair_answers : (a b : ℕ) (s₁ : State512) → step_of t tags s a ≡ went s₁ → (play_of t tags s (a ∷ b ∷ [])).answers
      ≡ taken ∷ (step_of t tags s₁ b).answer ∷ []
  unfolding play_of
  pair_answers a b s₁ e = λ i. (e i).answer ∷ (step_of t tags (e i).state b).answer ∷ []

  pair_state : (a b : ℕ) (s₁ : State512) → step_of t tags s a ≡ went s₁
      → (play_of t tags s (a ∷ b ∷ [])).state ≡ (step_of t tags s₁ b).state
  unfolding play_of
  pair_state a b s₁ e = λ i. (step_of t tags (e i).state b).state

  one_state : (a : ℕ) (s₁ : State512) → step_of t tags s a ≡ went s₁ → (play_of t tags s (a ∷ [])).state ≡ s₁
  unfolding play_of
  one_state a s₁ e = ap (λ r. r.state) e

  either : (a b : ℕ) → TwoHands t tags s a b → EitherOrder t tags s a b
  either a b hand = record {
    a_then_b = pair_answers a b w.after_a first_a ∙ ap (λ r. taken ∷ r.answer ∷ []) second_b;
    b_then_a = pair_answers b a w.after_b first_b ∙ ap (λ r. taken ∷ r.answer ∷ []) second_a;
    same = pair_state a b w.after_a first_a ∙ ap (λ r. r.state) (second_b ∙ sym second_a) ∙ sym (pair_state b a w.after_b first_b);
  }
    where
      m : (x y : Move) × Movers (arithmetic t) (lay t F N check) (view s) a b x y
      m = hands a b hand.two

      w : BothWays (arithmetic t) (lay t F N check) (tagged tags) s a b
      w = both_ways s good (tagged tags) m.2
          (λ g vs ws e f. hand.no_rivals (g, (vs, m.2.one.moves ∙ ap does e), (ws, m.2.other.moves ∙ ap does f)))

      first_a : step_of t tags s a ≡ went w.after_a
      first_a = circuit a b hand.two s a ∙ w.a_first

      first_b : step_of t tags s b ≡ went w.after_b
      first_b = circuit a b hand.two s b ∙ w.b_first

      second_b : step_of t tags w.after_a b ≡ went w.after_both
      second_b = circuit a b hand.two w.after_a b ∙ w.b_second

      second_a : step_of t tags w.after_b a ≡ went w.after_both
      second_a = circuit a b hand.two w.after_b a ∙ w.a_second

  -- of rivals
  module _ (a b : ℕ) (two : TwoSteps t tags s a b) (r : Rivals t s a b) where
    first : FirstEnters (arithmetic t) (lay t F N check) (tagged tags) s a b
    first =
        let m = (hands a b two).2 in
        first_enters (tagged tags) s good (record {
          one = mover good.sound m.one.there r.1.1;
          other = mover good.sound m.other.there r.2.1;
          different = two.different;
        })

    second_waits : SecondWaits t tags s a b
    second_waits =
        let goes_in : step_of t tags s a ≡ went first.after = circuit a b two s a ∙ first.first in
        let waits = circuit a b two first.after b ∙ first.second in
        record {
          answers = pair_answers a b first.after goes_in ∙ ap (λ r. taken ∷ r.answer ∷ []) waits;
          state = pair_state a b first.after goes_in ∙ ap (λ r. r.state) waits ∙ sym (one_state a first.after goes_in);
        }

    never_either : EitherOrder t tags s a b → ⊥
    never_either x = refused_second (sym second_waits.answers ∙ x.a_then_b)

    -- the second waits at an occupied resource, so it is listed
    second_tagged : Holding t tags → tagged tags b ≡ true
    second_tagged holds = holding_tags t F N check tags holds b
        (waits_listed (arithmetic t) (lay t F N check) (view first.after) first.good.sound b (hands a b two).2.other.there
        first.waits)

  turned : (a b : ℕ) → TwoSteps t tags s a b → TwoSteps t tags s b a
  turned a b two = record { different = λ e. two.different (sym e); a_steps = two.b_steps; b_steps = two.a_steps }

  alone : (n m v : ℕ) → (step_of t tags s n).answer ≡ answered v → Possible t tags s m → n ≡ m
  alone n m v e p = go (ℕ_discrete n m)
    where
      n_steps : Possible t tags s n
      n_steps = subst IsTaken (sym e) tt

      not_both : taken ≡ answered v → ⊥
      not_both z = let o : ◌≡◌ {A = ℕ} 0 1 = cc in omega arith

      go : Dec (n ≡ m) → n ≡ m
      go (yes i) = i
      go (no i) = absurd (not_both (sym (first_taken n m (record { different = i; a_steps = n_steps; b_steps = p })) ∙ e))

  who_goes_first : WhoGoesFirst t tags s
  who_goes_first = record {
    either = either;
    only = λ a b two x r. never_either a b two r x;
    alone = alone;
    waits = λ a b two r. (second_waits a b two r, second_waits b a (turned a b two) (r.0, r.2, r.1));
    arbitrated = λ holds a b two r. (second_tagged b a (turned a b two) (r.0, r.2, r.1) holds, second_tagged a b two r holds);
  }

-- after any steps from a start, whatever their tags
pub either_order : (t tags₀ args : List ℕ) (s : State512) → start_of t tags₀ args ≡ started s
    → (asked : List (Ask (List ℕ))) (tags : List ℕ)
    → WhoGoesFirst t tags (plays_of t s asked).state
unfolding plays_of
either_order t tags₀ args s start asked tags =
    let p = start_passes t tags₀ args s start in
    who_goes_first t (functions t) (nodes t) p.check tags (plays_of t s asked).state
    (subst (λ z. Good (functions t) (body_of t) (played (step_of t) z asked).state) (sym p.state)
    (table_kept t (functions t) (nodes t) p.check args p.count asked).good)

-- under the tags of the start
pub either_order_reached : EitherOrderReached
unfolding play_of plays_of
either_order_reached t tags args s start ns = (either_order t tags args s start (asks tags ns) tags).either
