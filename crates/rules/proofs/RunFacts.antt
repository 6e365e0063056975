-- the steps of a run are steps of the third demand
use Prim.Native.Nat.{ℕ, suc, ◌+◌}
use mathlib.Core.Path.{◌≡◌, refl, subst, sym, ap, ◌∙◌}
use mathlib.Core.Logic.{◌↔◌, ⊎_elim}
use mathlib.Core.List.{List, [], ◌∷◌, ◌++◌}
use native.Mathlib.Omega.{arith}
use lib.ListN.{length, take, length-append}
use Rattle.table.specs.Bytes.{functions, nodes}
use Rattle.table.specs.Check.{accepted}
use Rattle.rules.specs.State.{State512}
use Rattle.rules.specs.Step.{Reply, taken, answered, denied, refusal}
use Rattle.rules.specs.Play.{asks, noted, played}
use Rattle.rules.specs.Circuit.{started, start_of, step_of, plays_of, play_of, Possible}
use Rattle.rules.specs.Reading.{ReadsTo}
use Rattle.rules.specs.Runs.{RunPlays, and_then, standing, run_from, run_after, run_of, MainDone, main_value, Ended, gave, at_rest}
use Rattle.rules.specs.Runs.{barred, Driven, Says, Picks, DrivesAfter, Drives, Found, names, nothing, unasked, FindsAfter, Finds}
use Rattle.rules.specs.Demand.{Answers}
use Rattle.rules.specs.Companions.{UnderAnyTags, RunDemand, DriveDemand, AfterSteps}
use Rattle.rules.proofs.Logs.{played_state, played_nodes, asks_join}
use Rattle.rules.proofs.Starts.{Passes, start_passes}
use Rattle.rules.proofs.Demands.{under_any_tags}
use Rattle.rules.proofs.AnyState.{refused_unchanged, done_none}

module _ (t tags : List ℕ) where
  -- a play of one more number
  pub play_more : (s : State512) (n : ℕ) (ns : List ℕ) → (play_of t tags s (n ∷ ns)).nodes
      ≡ noted (step_of t tags s n).answer n (play_of t tags (step_of t tags s n).state ns).nodes
  unfolding play_of
  play_more s n ns = refl

  pub play_on : (s : State512) (n : ℕ) (ns : List ℕ) → (play_of t tags s (n ∷ ns)).state
      ≡ (play_of t tags (step_of t tags s n).state ns).state
  unfolding play_of
  play_on s n ns = refl

  pub from_nothing : (s : State512) (ns : List ℕ) → ((play_of t tags s []).nodes ≡ []) × ((play_of t tags s []).state ≡ s)
  unfolding play_of
  from_nothing s ns = (refl, refl)

  run_steps : (s : State512) (ns : List ℕ) → RunPlays t tags s ns (run_from t tags s ns)
  unfolding run_from
  run_steps s [] = record {
    steps = (from_nothing s []).0;
    number = refl;
    state = (from_nothing s []).1;
    all = λ e. refl;
    next = λ k p e. let z : ◌≡◌ {A = ℕ} 0 1 = cc in absurd (omega arith);
  }
  run_steps s (n ∷ ns) = go (step_of t tags s n).answer refl (run_steps (step_of t tags s n).state ns)
    where
      s₁ : State512
      s₁ = (step_of t tags s n).state

      on : (a : Reply) → (step_of t tags s n).answer ≡ a → ((l : List ℕ) → noted a n l ≡ n ∷ l)
          → RunPlays t tags s₁ ns (run_from t tags s₁ ns)
          → RunPlays t tags s (n ∷ ns)
          (record { steps = suc (run_from t tags s₁ ns).steps; halt = (run_from t tags s₁ ns).halt; state = (run_from t tags s₁ ns).state })
      on a e f r = record {
        steps = play_more s n (take (run_from t tags s₁ ns).steps ns)
            ∙ ap (λ x. noted x n (play_of t tags s₁ (take (run_from t tags s₁ ns).steps ns)).nodes) e
            ∙ f (play_of t tags s₁ (take (run_from t tags s₁ ns).steps ns)).nodes
            ∙ ap (λ l. n ∷ l) r.steps;
        number = ap suc r.number;
        state = play_on s n (take (run_from t tags s₁ ns).steps ns) ∙ r.state;
        all = λ h. ap suc (r.all h);
        next = λ k p h. (omega (arith, (r.next k p h).0), (r.next k p h).1);
      }

      go : (a : Reply) → (step_of t tags s n).answer ≡ a → RunPlays t tags s₁ ns (run_from t tags s₁ ns)
          → RunPlays t tags s (n ∷ ns) (and_then (step_of t tags s n) a (run_from t tags s₁ ns))
      go taken e r = on taken e (λ l. refl) r
      go (answered v) e r = on (answered v) e (λ l. refl) r
      go (denied k p) e r = record {
        steps = (from_nothing s []).0;
        number = refl;
        state = (from_nothing s []).1 ∙ sym (ap (λ x. x.state) (refused_unchanged t tags s n k p e));
        all = λ h. let z : ◌≡◌ {A = ℕ} 0 1 = cc in absurd (omega arith);
        next = λ i q h.
            let u = refused_unchanged t tags s n k p e in
            let a : k ≡ i = cc in
            let b : p ≡ q = cc in
            let w : s ≡ s₁ = sym (ap (λ x. x.state) u) in
            (omega arith, ap (λ x. step_of t tags x n) (sym w) ∙ u ∙ (λ j. refusal (w j) (a j) (b j)));
      }

  -- "stops at the first refusal, and tells the steps taken and that refusal, if any"
  pub run_plays : (s : State512) (ns : List ℕ) (F N : ℕ) → standing t tags s ≡ accepted F N → RunPlays t tags s ns (run_of t tags s ns)
  unfolding run_of
  run_plays s ns F N e = subst (λ c. RunPlays t tags s ns (run_after c s (run_from t tags s ns))) (sym e) (run_steps s ns)

  -- a query once main's root is done
  pub query_over : (s : State512) (F N : ℕ) → standing t tags s ≡ accepted F N → MainDone t s → (r : Found) → Finds t tags s r → r ≡ nothing
  query_over s F N e d r x = go r (subst (λ c. FindsAfter c t tags s r) e x)
    where
      go : (r : Found) → FindsAfter (accepted F N) t tags s r → r ≡ nothing
      go (names n) y = absurd (done_none t tags s n d y)
      go nothing y = refl
      go (unasked k p) y = absurd y

  -- one play after another
  pub play_state : (s : State512) (ns ms : List ℕ) → (play_of t tags s (ns ++ ms)).state
      ≡ (play_of t tags (play_of t tags s ns).state ms).state
  unfolding play_of
  play_state s ns ms =
      ap (λ a. (played (step_of t) s a).state) (asks_join tags ns ms) ∙ played_state (step_of t) s (asks tags ns) (asks tags ms)

  pub play_nodes : (s : State512) (ns ms : List ℕ)
      → (play_of t tags s (ns ++ ms)).nodes ≡ (play_of t tags s ns).nodes ++ (play_of t tags (play_of t tags s ns).state ms).nodes
  unfolding play_of
  play_nodes s ns ms =
      ap (λ a. (played (step_of t) s a).nodes) (asks_join tags ns ms) ∙ played_nodes (step_of t) s (asks tags ns) (asks tags ms)

module _ (t tags args : List ℕ) (s : State512) (start : start_of t tags args ≡ started s) where
  abbrev passes : Passes t tags args s
  passes = start_passes t tags args s start

  -- what holds under any tags, under these
  plays : (ns : List ℕ) → UnderAnyTags t args s (asks tags ns)
  plays ns = under_any_tags t tags args s start (asks tags ns)

  pub same_play : (ns : List ℕ) → plays_of t s (asks tags ns) ≡ play_of t tags s ns
  unfolding plays_of play_of
  same_play ns = refl

  -- main has answered v exactly if its root is done with v
  pub main_said : (ns : List ℕ) (v : ℕ)
      → Answers (play_of t tags s ns) v ↔ (MainDone t (play_of t tags s ns).state × (main_value t (play_of t tags s ns).state ≡ v))
  main_said ns v = subst (λ l. Answers l v ↔ (MainDone t l.state × (main_value t l.state ≡ v))) (same_play ns)
      ((plays ns).answered_done v, λ x. subst (Answers (plays_of t s (asks tags ns))) x.1 ((plays ns).done_answered x.0))

  -- from a start a run is never refused before its first step
  pub start_stands : (ns : List ℕ) → standing t tags (play_of t tags s ns).state ≡ accepted (functions t) (nodes t)
  start_stands ns = subst (λ l. standing t tags l.state ≡ accepted (functions t) (nodes t)) (same_play ns)
      ((plays ns).stands (functions t) (nodes t) tags passes.check_tags)

  pub start_run : (ns ms : List ℕ)
      → RunPlays t tags (play_of t tags s ns).state ms (run_of t tags (play_of t tags s ns).state ms)
  start_run ns ms = run_plays t tags (play_of t tags s ns).state ms (functions t) (nodes t) (start_stands ns)

  -- the run's steps as steps since the start
  pub run_demand : (ns ms : List ℕ) → RunDemand t tags s ns ms (run_of t tags (play_of t tags s ns).state ms)
  run_demand ns ms =
      let p = start_run ns ms in
      let k : ℕ = (run_of t tags (play_of t tags s ns).state ms).steps in
      record {
        state = sym (play_state t tags s ns (take k ms) ∙ p.state);
        steps = play_nodes t tags s ns (take k ms) ∙ ap (λ l. (play_of t tags s ns).nodes ++ l) p.steps;
        number = sym p.number;
      }

  -- a query says none only after the answer
  pub start_query : (ns : List ℕ) → Finds t tags (play_of t tags s ns).state nothing → (v : ℕ) × Answers (play_of t tags s ns) v
  start_query ns f =
      let none = subst (λ c. FindsAfter c t tags (play_of t tags s ns).state nothing) (start_stands ns) f in
      ⊎_elim (λ x. (x.0, subst (λ l. Answers l x.0) (same_play ns) x.1))
      (λ x. absurd (none x.0 (subst (λ l. Possible t tags l.state x.0) (same_play ns) x.1)))
      ((plays ns).lively (functions t) (nodes t) tags passes.check_tags)

  module _ (ns : List ℕ) (budget : ℕ) (r : Driven) (picks : Picks t tags (play_of t tags s ns).state budget r) where
    abbrev all : List ℕ
    all = ns ++ picks.picked

    ends : (play_of t tags s all).state ≡ r.state
    ends = play_state t tags s ns picks.picked ∙ picks.state

    taken_all : (play_of t tags s all).nodes ≡ (play_of t tags s ns).nodes ++ picks.picked
    taken_all = play_nodes t tags s ns picks.picked ∙ ap (λ l. (play_of t tags s ns).nodes ++ l) picks.possible

    number_all : length (play_of t tags s all).nodes ≡ length (play_of t tags s ns).nodes + r.steps
    number_all = ap length taken_all ∙ length-append (play_of t tags s ns).nodes picks.picked
        ∙ ap (λ k. length (play_of t tags s ns).nodes + k) picks.number

    by_end : (e : Ended) → r.ended ≡ e → Says t tags budget r.steps r.state e
    by_end e q = subst (Says t tags budget r.steps r.state) q picks.says

    -- main's root done at the end is an answer of the whole list
    reads : (v : ℕ) → MainDone t r.state → main_value t r.state ≡ v → ReadsTo t args v (length (play_of t tags s ns).nodes + r.steps)
    reads v d e =
        let m = subst (λ x. MainDone t x) (sym ends ∙ sym (ap (λ l. l.state) (same_play all))) d in
        let a = (plays all).done_answered m in
        let x = (plays all).right (main_value t (plays_of t s (asks tags all)).state) a in
        subst (ReadsTo t args v) (ap (λ l. length l.nodes) (same_play all) ∙ number_all)
        (subst (λ w. ReadsTo t args w (length (plays_of t s (asks tags all)).nodes))
        (ap (λ l. main_value t l.state) (same_play all) ∙ ap (main_value t) ends ∙ e) x)

    rests : (MainDone t r.state → ⊥) × ((n : ℕ) → Possible t tags r.state n → ⊥) → ⊥
    rests q =
        let back : (plays_of t s (asks tags all)).state ≡ r.state = ap (λ l. l.state) (same_play all) ∙ ends in
        ⊎_elim (λ x. q.0 (subst (MainDone t) back ((plays all).answered_done x.0 x.1).0))
        (λ x. q.1 x.0 (subst (λ y. Possible t tags y x.0) back x.1))
        ((plays all).lively (functions t) (nodes t) tags passes.check_tags)

    -- the run with a budget that picks these steps, after any list of steps from a start
    pub picks_demand : (d : DriveDemand t tags args s ns r) × (d.picked ≡ picks.picked)
    picks_demand = (
      record {
        picked = picks.picked;
        state = sym ends;
        steps = taken_all;
        number = sym picks.number;
        right = λ v e. let x = by_end (gave v) e in reads v x.0 x.1;
        never_rests = λ e. rests (by_end at_rest e);
        never_barred = λ k p e. by_end (barred k p) e;
      },
      refl,
    )

  -- .. and that picks whichever
  pub drive_demand : (ns : List ℕ) (budget : ℕ) (r : Driven) → Drives t tags (play_of t tags s ns).state budget r
      → DriveDemand t tags args s ns r
  drive_demand ns budget r drives =
      (picks_demand ns budget r (subst (λ c. DrivesAfter c t tags (play_of t tags s ns).state budget r) (start_stands ns) drives)).0

-- query and runs after any list of steps from a start
pub after_steps : (t tags args : List ℕ) (s : State512) → start_of t tags args ≡ started s → (ns : List ℕ) → AfterSteps t tags args s ns
after_steps t tags args s start ns = record {
  start_run = start_run t tags args s start ns;
  run_demand = run_demand t tags args s start ns;
  start_query = start_query t tags args s start ns;
  drive_demand = drive_demand t tags args s start ns;
}
