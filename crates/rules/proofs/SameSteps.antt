-- two tag lists under which every step is the same in the states of P, which steps don't leave: plays, runs and the query are the same too
use Prim.Native.Nat.{ℕ, zero, suc}
use mathlib.Core.Bool.{not}
use mathlib.Core.Path.{◌≡◌, refl, sym, ap, ◌∙◌}
use mathlib.Core.List.{List, [], ◌∷◌}
use lib.Dec.{eqb}
use Rattle.table.specs.Pick.{pick}
use Rattle.table.specs.Syntax.{id}
use Rattle.table.specs.Bytes.{functions, nodes}
use Rattle.table.specs.Expressions.{body_of}
use Rattle.list.specs.Tags.{check_with}
use Rattle.rules.specs.State.{State512, view}
use Rattle.rules.specs.Step.{done}
use Rattle.rules.specs.Play.{asks, before, played}
use Rattle.rules.specs.Circuit.{step_of, play_of}
use Rattle.rules.specs.Runs.{standing, main_value, gave, at_rest, spent, Driven, and_then, run_from, run_after, run_of}
use Rattle.rules.specs.First.{is_taken, first_of, onward, query_after, query_of, stays, one_more, unless_over, drive_from, drive_after}
use Rattle.rules.specs.First.{drive_of}
use Rattle.rules.specs.SpareTags.{AskedAlike}
use Rattle.rules.proofs.Demands.{standing_by}
use Rattle.table.proofs.LowestLaws.{lowest_same}

module _ (t tags tags' : List ℕ) (check : check_with t tags ≡ check_with t tags') (P : State512 → Type 0)
    (same : (s : State512) → P s → (n : ℕ) → step_of t tags s n ≡ step_of t tags' s n)
    (on : (s : State512) → P s → (n : ℕ) → P (step_of t tags s n).state) where
  first_same : (s : State512) → P s → first_of t tags s ≡ first_of t tags' s
  unfolding first_of
  first_same s p = lowest_same (λ n. not (is_taken (step_of t tags s n).answer))
      (λ n. not (is_taken (step_of t tags' s n).answer)) (nodes t)
      (λ n r. ap (λ x. not (is_taken x.answer)) (same s p n))

  standing_same : (s : State512) → standing t tags s ≡ standing t tags' s
  standing_same s = standing_by t tags s (check_with t tags') check ∙ sym (standing_by t tags' s (check_with t tags') refl)

  -- lists of steps
  play_from : (ns : List ℕ) (s : State512) → P s → played (step_of t) s (asks tags ns) ≡ played (step_of t) s (asks tags' ns)
  play_from [] s p = refl
  play_from (n ∷ ns) s p =
      ap (before n (step_of t tags s n)) (play_from ns (step_of t tags s n).state (on s p n))
      ∙ ap (λ r. before n r (played (step_of t) r.state (asks tags' ns))) (same s p n)

  run_from_lem : (ns : List ℕ) (s : State512) → P s → run_from t tags s ns ≡ run_from t tags' s ns
  unfolding run_from
  run_from_lem [] s p = refl
  run_from_lem (n ∷ ns) s p =
      ap (and_then (step_of t tags s n) (step_of t tags s n).answer) (run_from_lem ns (step_of t tags s n).state (on s p n))
      ∙ ap (λ r. and_then r r.answer (run_from t tags' r.state ns)) (same s p n)

  -- the first possible step, again and again
  onward_same : (s : State512) → P s → onward t tags s ≡ onward t tags' s
  unfolding onward
  onward_same s p = ap (λ n. (step_of t tags s n).state) (first_same s p) ∙ ap (λ r. r.state) (same s p (first_of t tags' s))

  turn_same : (s : State512) → P s → (r r' : Driven) → r ≡ r' → unless_over t tags s r ≡ unless_over t tags' s r'
  turn_same s p r r' e = λ i. pick (done (view s) (id (body_of t (functions t)))) (stays s (gave (main_value t s)))
      (pick (eqb (first_same s p i) 0) (stays s at_rest) (e i))

  drive_from_lem : (b : ℕ) (s : State512) → P s → drive_from t tags s b ≡ drive_from t tags' s b
  unfolding drive_from onward
  drive_from_lem zero s p = turn_same s p (stays s spent) (stays s spent) refl
  drive_from_lem (suc b) s p = turn_same s p (one_more (drive_from t tags (onward t tags s) b))
      (one_more (drive_from t tags' (onward t tags' s) b))
      (ap one_more (drive_from_lem b (onward t tags s) (on s p (first_of t tags s)) ∙ ap (λ z. drive_from t tags' z b) (onward_same s p)))

  pub asked_alike : (s : State512) → P s → AskedAlike t tags tags' s
  unfolding play_of run_of query_of drive_of
  asked_alike s p = record {
    step = same s p;
    play = λ ns. play_from ns s p;
    run = λ ns. (λ i. run_after (standing_same s i) s (run_from_lem ns s p i));
    query = (λ i. query_after (standing_same s i) (first_same s p i));
    drive = λ budget. (λ i. drive_after (standing_same s i) s (drive_from_lem budget s p i));
  }
