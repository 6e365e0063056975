-- what is shown of the first possible step, put together: of any state, with a run that goes on where another was spent; and after steps
-- from a start
use Prim.Native.Nat.{ℕ, ◌+◌}
use mathlib.Core.Path.{◌≡◌, refl, subst, sym, ap, ap₂, ◌∙◌}
use mathlib.Core.List.{List}
use native.Mathlib.Omega.{arith}
use lib.ListN.{length}
use Rattle.table.specs.Bytes.{functions, nodes}
use Rattle.table.specs.Check.{Verdict, accepted, refused}
use Rattle.rules.specs.State.{State512}
use Rattle.rules.specs.Circuit.{started, start_of, play_of}
use Rattle.rules.specs.Runs.{standing, spent, Driven, Says, Picks, DrivesAfter, Finds}
use Rattle.rules.specs.First.{after_first, firsts_of, plus, drive_from, drive_after, drive_of, FirstSteps}
use Rattle.rules.specs.Companions.{FirstDemand}
use Rattle.rules.proofs.FirstFacts.{first_some, first_none, rests_on, possible_stands, query_done, query_named, query_finds}
use Rattle.rules.proofs.FirstRuns.{drive_drives, drive_traced, drive_state, after_more}
use Rattle.rules.proofs.FirstLoop.{spent_on}
use Rattle.rules.proofs.RunFacts.{main_said, start_stands, start_query, picks_demand}

module _ (t tags : List ℕ) where
  -- where table, tags and 24 are passed
  from_here : (s : State512) (F N : ℕ) → standing t tags s ≡ accepted F N → (b : ℕ) → drive_of t tags s b ≡ drive_from t tags s b
  unfolding drive_of
  from_here s F N e b = ap (λ c. drive_after c s (drive_from t tags s b)) e

  -- a run that is spent was not refused
  spent_stood : (s : State512) (k : ℕ) → (drive_of t tags s k).ended ≡ spent → (F N : ℕ) × (standing t tags s ≡ accepted F N)
  unfolding drive_of
  spent_stood s k = go (standing t tags s) refl
    where
      go : (c : Verdict) → standing t tags s ≡ c → (drive_after c s (drive_from t tags s k)).ended ≡ spent
          → (F N : ℕ) × (standing t tags s ≡ accepted F N)
      go (accepted F N) e q = (F, N, e)
      go (refused i p) e q = let z : ◌≡◌ {A = ℕ} 0 1 = cc in absurd (omega arith)

  -- .. and where it stopped a step is possible, so that the next run is not refused either
  drive_on : (s : State512) (k j : ℕ) → (drive_of t tags s k).ended ≡ spent
      → drive_of t tags s (k + j) ≡ plus (drive_of t tags s k).steps (drive_of t tags (drive_of t tags s k).state j)
  drive_on s k j q =
      let r : Driven = drive_of t tags s k in
      let w = spent_stood s k q in
      let at = from_here s w.0 w.1 w.2 in
      let p : Picks t tags s k r = subst (λ c. DrivesAfter c t tags s k r) w.2 (drive_drives t tags s k) in
      let x : Says t tags k r.steps r.state spent = subst (Says t tags k r.steps r.state) q p.says in
      let there = from_here r.state _ _ (possible_stands t tags r.state x.1.0 x.1.1) in
      let same : after_first t tags s k ≡ r.state = ap (after_first t tags s) (sym x.2) ∙ sym (drive_state t tags s k) in
      at (k + j) ∙ spent_on t tags k j s (ap (λ d. d.ended) (sym (at k)) ∙ q)
      ∙ ap₂ (λ i u. plus i (drive_from t tags u j)) (sym x.2) same ∙ ap (plus r.steps) (sym (there j))

pub first_steps : (t tags : List ℕ) (s : State512) → FirstSteps t tags s
first_steps t tags s = record {
  some = first_some t tags s;
  none = first_none t tags s;
  rests = rests_on t tags s;
  named = query_named t tags s;
  over = query_done t tags s;
  finds = query_finds t tags s;
  drives = drive_drives t tags s;
  traced = drive_traced t tags s;
  state = drive_state t tags s;
  more = λ k j. after_more t tags k j s;
  on = drive_on t tags s;
}

module _ (t tags args : List ℕ) (s : State512) (start : start_of t tags args ≡ started s) (ns : List ℕ) where
  abbrev here : State512
  here = (play_of t tags s ns).state

  stands : standing t tags here ≡ accepted (functions t) (nodes t)
  stands = start_stands t tags args s start ns

  -- the first steps as the steps that a run picks
  module _ (budget : ℕ) where
    abbrev r : Driven
    r = drive_of t tags here budget

    abbrev picks : Picks t tags here budget r
    picks =
        let p : Picks t tags here budget r = subst (λ c. DrivesAfter c t tags here budget r) stands (drive_drives t tags here budget) in
        let z = drive_traced t tags here budget in
        record {
          picked = firsts_of t tags here r.steps;
          possible = z.taken;
          number = ap length (sym z.taken) ∙ z.number;
          within = p.within;
          state = z.state;
          says = p.says;
        }

  pub first_demand : FirstDemand t tags args s ns
  first_demand = record {
    none = λ e. start_query t tags args s start ns (subst (Finds t tags here) e (query_finds t tags here));
    over = λ v a. query_done t tags here (functions t) (nodes t) stands ((main_said t tags args s start ns v).0 a).0;
    run = λ budget. (picks_demand t tags args s start ns budget (r budget) (picks budget)).0;
    picked = λ budget. (picks_demand t tags args s start ns budget (r budget) (picks budget)).1;
  }
