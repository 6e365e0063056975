-- the run that follows the first possible step: its steps are possible, and its state is that after so many first steps
use Prim.Native.Nat.{ℕ, zero, suc, ◌+◌}
use mathlib.Core.Bool.{Bool, true, false}
use mathlib.Core.Path.{◌≡◌, refl, ap, ◌∙◌}
use mathlib.Core.List.{List, [], ◌∷◌}
use native.Mathlib.Omega.{arith}
use lib.Dec.{eqb}
use lib.ListN.{length}
use borrow.Author.Tests.{eqb-true, eqb-false}
use Rattle.table.specs.Pick.{pick}
use Rattle.table.specs.Syntax.{id}
use Rattle.table.specs.Bytes.{functions}
use Rattle.table.specs.Check.{Verdict, accepted, refused}
use Rattle.table.specs.Expressions.{body_of}
use Rattle.rules.specs.State.{State512, view}
use Rattle.rules.specs.Step.{Reply, taken, answered, denied, done}
use Rattle.rules.specs.Play.{IsTaken, noted}
use Rattle.rules.specs.Circuit.{step_of, play_of}
use Rattle.rules.specs.Runs.{standing, MainDone, main_value, Ended, gave, at_rest, spent, barred, Driven, Says, Picks, DrivesAfter}
use Rattle.rules.specs.Runs.{Drives}
use Rattle.rules.specs.First.{first_of, First, onward, after_first, firsts_of, stays, one_more, unless_over, drive_from, drive_after}
use Rattle.rules.specs.First.{drive_of, Traced}
use Rattle.rules.proofs.FirstFacts.{first_some, first_none}

noted_taken : (r : Reply) (n : ℕ) (ns : List ℕ) → IsTaken r → noted r n ns ≡ n ∷ ns
noted_taken taken n ns a = refl
noted_taken (answered v) n ns a = refl
noted_taken (denied k p) n ns a = absurd a

-- one step more, and one more in the budget
says_more : (t tags : List ℕ) (b k : ℕ) (s : State512) (e : Ended) → Says t tags b k s e → Says t tags (suc b) (suc k) s e
says_more t tags b k s (gave v) h = h
says_more t tags b k s at_rest h = h
says_more t tags b k s spent h = (h.0, h.1, omega (arith, h.2))
says_more t tags b k s (barred i p) h = h

module _ (t tags : List ℕ) where
  -- the three cases of a run's next turn
  module _ (P : Driven → Type 0) (s : State512) (r : Driven) where
    pub by_turn : (MainDone t s → P (stays s (gave (main_value t s))))
        → ((MainDone t s → ⊥) → first_of t tags s ≡ 0 → P (stays s at_rest))
        → ((MainDone t s → ⊥) → (first_of t tags s ≡ 0 → ⊥) → P r) → P (unless_over t tags s r)
    by_turn f g h = go (done (view s) (id (body_of t (functions t)))) (eqb (first_of t tags s) 0) refl refl
      where
        go : (a b : Bool) → done (view s) (id (body_of t (functions t))) ≡ a → eqb (first_of t tags s) 0 ≡ b
            → P (pick a (stays s (gave (main_value t s))) (pick b (stays s at_rest) r))
        go true b p q = f (eqb-true ((view s).status (id (body_of t (functions t)))) 3 p)
        go false true p q = g (eqb-false ((view s).status (id (body_of t (functions t)))) 3 p) (eqb-true (first_of t tags s) 0 q)
        go false false p q = h (eqb-false ((view s).status (id (body_of t (functions t)))) 3 p) (eqb-false (first_of t tags s) 0 q)

  -- its steps are possible ones
  no_steps : (s : State512) (b : ℕ) (e : Ended) → Says t tags b 0 s e → Picks t tags s b (stays s e)
  unfolding play_of
  no_steps s b e h = record { picked = []; possible = refl; number = refl; within = omega arith; state = refl; says = h }

  a_step : (s : State512) (b : ℕ) (r : Driven) → First t tags s (first_of t tags s) → Picks t tags (onward t tags s) b r
      → Picks t tags s (suc b) (one_more r)
  unfolding play_of onward
  a_step s b r f p = record {
    picked = first_of t tags s ∷ p.picked;
    possible = noted_taken (step_of t tags s (first_of t tags s)).answer (first_of t tags s) _ f.possible
        ∙ ap (λ l. first_of t tags s ∷ l) p.possible;
    number = ap suc p.number;
    within = omega (arith, p.within);
    state = p.state;
    says = says_more t tags b r.steps r.state r.ended p.says;
  }

  drive_picks : (b : ℕ) (s : State512) → Picks t tags s b (drive_from t tags s b)
  unfolding drive_from
  drive_picks zero s = by_turn (Picks t tags s 0) s _
      (λ d. no_steps s 0 _ (d, refl))
      (λ d e. no_steps s 0 _ (d, first_none t tags s e))
      (λ d e. no_steps s 0 _ (d, (first_of t tags s, (first_some t tags s e).possible), refl))
  drive_picks (suc b) s = by_turn (Picks t tags s (suc b)) s _
      (λ d. no_steps s (suc b) _ (d, refl))
      (λ d e. no_steps s (suc b) _ (d, first_none t tags s e))
      (λ d e. a_step s b _ (first_some t tags s e) (drive_picks b (onward t tags s)))

  pub drive_drives : (s : State512) (budget : ℕ) → Drives t tags s budget (drive_of t tags s budget)
  unfolding drive_of
  drive_drives s budget = go (standing t tags s)
    where
      go : (c : Verdict) → DrivesAfter c t tags s budget (drive_after c s (drive_from t tags s budget))
      go (accepted F N) = drive_picks budget s
      go (refused k p) = refl

  -- its state is that after as many first steps as it tells
  from_state : (b : ℕ) (s : State512) → (drive_from t tags s b).state ≡ after_first t tags s (drive_from t tags s b).steps
  unfolding drive_from after_first
  from_state zero s = by_turn (λ r. r.state ≡ after_first t tags s r.steps) s _ (λ d. refl) (λ d e. refl) (λ d e. refl)
  from_state (suc b) s = by_turn (λ r. r.state ≡ after_first t tags s r.steps) s _ (λ d. refl) (λ d e. refl)
      (λ d e. from_state b (onward t tags s))

  pub drive_state : (s : State512) (budget : ℕ) → (drive_of t tags s budget).state ≡ after_first t tags s (drive_of t tags s budget).steps
  unfolding drive_of after_first
  drive_state s budget = go (standing t tags s)
    where
      go : (c : Verdict) → (drive_after c s (drive_from t tags s budget)).state
          ≡ after_first t tags s (drive_after c s (drive_from t tags s budget)).steps
      go (accepted F N) = from_state budget s
      go (refused k p) = unfold after_first in refl

  plus_suc : (k j : ℕ) → suc k + j ≡ suc (k + j)
  plus_suc k j = omega arith

  plus_zero : (j : ℕ) → 0 + j ≡ j
  plus_zero j = omega arith

  -- first steps after first steps
  pub after_more : (k j : ℕ) (s : State512) → after_first t tags s (k + j) ≡ after_first t tags (after_first t tags s k) j
  unfolding after_first
  after_more zero j s = ap (after_first t tags s) (plus_zero j)
  after_more (suc k) j s = ap (after_first t tags s) (plus_suc k j) ∙ after_more k j (onward t tags s)

module _ (t tags : List ℕ) where
  -- the steps of a run are its trace
  no_trace : (s : State512) (e : Ended) → Traced t tags s (stays s e)
  unfolding play_of firsts_of
  no_trace s e = record { taken = refl; number = refl; state = refl }

  a_trace : (s : State512) (r : Driven) → First t tags s (first_of t tags s)
      → Traced t tags (onward t tags s) r → Traced t tags s (one_more r)
  unfolding play_of onward firsts_of
  a_trace s r f p =
      let one = noted_taken (step_of t tags s (first_of t tags s)).answer (first_of t tags s) _ f.possible in
      record {
        taken = one ∙ ap (λ l. first_of t tags s ∷ l) p.taken;
        number = ap length one ∙ ap suc p.number;
        state = p.state;
      }

  from_traced : (b : ℕ) (s : State512) → Traced t tags s (drive_from t tags s b)
  unfolding drive_from
  from_traced zero s = by_turn t tags (Traced t tags s) s _ (λ d. no_trace s _) (λ d e. no_trace s _) (λ d e. no_trace s _)
  from_traced (suc b) s = by_turn t tags (Traced t tags s) s _ (λ d. no_trace s _) (λ d e. no_trace s _)
      (λ d e. a_trace s _ (first_some t tags s e) (from_traced b (onward t tags s)))

  pub drive_traced : (s : State512) (budget : ℕ) → Traced t tags s (drive_of t tags s budget)
  unfolding drive_of
  drive_traced s budget = go (standing t tags s)
    where
      go : (c : Verdict) → Traced t tags s (drive_after c s (drive_from t tags s budget))
      go (accepted F N) = from_traced budget s
      go (refused k p) = no_trace s (barred k p)
