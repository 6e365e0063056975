-- what every list of steps from a start keeps, whatever the tags: a sound state, the steps of the abstract circuit, each call's phase by
-- the number of its steps, and main's answer
use Prim.Native.Nat.{ℕ, ◌+◌, ◌%◌, ◌≤◌}
use mathlib.Core.Bool.{Bool, true, false, true≢false}
use mathlib.Core.Path.{◌≡◌, refl, subst, sym, ap, ◌∙◌}
use mathlib.Core.Logic.{◌⊎◌, inl, inr}
use mathlib.Core.List.{List, []}
use native.Mathlib.Omega.{arith}
use native.Mathlib.Decide.{ℕ_discrete}
use lib.ListN.{length, length-map}
use lib.Dec.{eqb}
use borrow.Author.Tests.{eqb-true, eqb-false}
use Rattle.table.proofs.LaidOut.{call_here}
use Rattle.table.specs.Syntax.{Expr, id, Sub}
use Rattle.rules.specs.State.{View, State512, In, view, circuit_start}
use Rattle.rules.specs.Reading.{Readings, readings}
use Rattle.table.specs.Pick.{pick, Range}
use Rattle.rules.proofs.LaidFacts.{fn_main}
use Rattle.rules.proofs.Levels.{closes}
use Rattle.table.specs.Well.{Fn, CallIn, Laid}
use Rattle.rules.specs.Arithmetic.{Arithmetic, keep_all}
use Rattle.list.specs.Conflict.{C}
use Rattle.rules.proofs.Invariant.{Sound}
use Rattle.rules.proofs.Collide.{waiting_listed}
use Rattle.rules.proofs.Remaining.{Closes}
use Rattle.rules.proofs.Answers.{Steps, rest, then, AtStart, started_sound, answer}
use Rattle.rules.specs.Step.{taken, answered, denied, refusal, circuit_step, Move, does, act, done, perform}
use Rattle.rules.proofs.StepTaken.{Waits}
use Rattle.rules.proofs.StepCases.{number, place, step_cases}
use Rattle.rules.proofs.StepFacts.{Good, moved_step, moved_good, step_waits, step_over, some_step}
use Rattle.rules.proofs.Thirds.{third, third_rest}
use Rattle.rules.specs.Play.{Ask, Log, count, calls, entries, leavings, IsTaken}
use Rattle.rules.proofs.Logs.{begin, logged, more, Alike}
use Rattle.rules.proofs.Occupied.{Phased, moved_phased, call_phase, entries_leavings, entries_one}
use Rattle.rules.specs.Companions.{Phases}
use Rattle.rules.proofs.Phases.{step_phases}
use Rattle.list.specs.CallSets.{callee, callee_at, sets, Listed}
use Rattle.list.proofs.CallSetFacts.{body_calls}
use Rattle.rules.proofs.StartFacts.{start_sized, start_started, start_rest, open_root}

module _ (units : Arithmetic) {F N : ℕ} {body at : ℕ → Expr} {home : ℕ → ℕ} (laid : Laid F N body at home) where
  abbrev K : Readings
  K = readings units body F

  -- the readings are what the abstract proof asks for
  program_reads : Closes units F body K
  program_reads = closes units body F laid.well

  abbrev Root : ℕ
  Root = id (body F)

  -- what holds after any list of steps from s₀
  pub record Kept (s₀ : View) (l : Log) : Type 0 where
    pub good : Good F body l.state
    pub steps : Steps units F body s₀ (view l.state) (length l.nodes)
    pub phased : Phased F body (view l.state) l.nodes
    pub said : (v : ℕ) → In (answered v) l.answers → ((view l.state).status (id (body F)) ≡ 3) ×
        ((view l.state).value (id (body F)) ≡ v)
    pub says : (view l.state).status (id (body F)) ≡ 3 → (v : ℕ) × In (answered v) l.answers

  module _ (s₀ : View) (l : Log) (k : Kept s₀ l) where
    pub refused_kept : (n i p : ℕ) → Kept s₀ (logged l n (record { answer = denied i p; state = l.state }))
    refused_kept n i p = record {
      good = k.good;
      steps = k.steps;
      phased = k.phased;
      said = said_more;
      says = λ e. ((k.says e).0, inr (k.says e).1);
    }
      where
        said_more : (v : ℕ) → (answered v ≡ denied i p) ⊎ In (answered v) l.answers
            → ((view l.state).status (id (body F)) ≡ 3) × ((view l.state).value (id (body F)) ≡ v)
        said_more v (inl e) = let z : ◌≡◌ {A = ℕ} 0 1 = cc in absurd (omega arith)
        said_more v (inr i) = k.said v i

    module _ (n : ℕ) (r : Range N n) (awake : done (view l.state) Root ≡ false) (m : Move)
        (here : act units body (home n) (view l.state) (at n) ≡ does m) where
      abbrev t : State512
      t = perform N home body l.state n m

      -- nothing was answered before
      unsaid : {X : Type 0} (v : ℕ) → In (answered v) l.answers → X
      unsaid v i = absurd (eqb-false ((view l.state).status Root) 3 awake (k.said v i).0)

      moved_kept : (b : Bool) → done (view t) Root ≡ b
          → Kept s₀ (logged l n (record { answer = pick b (answered ((view t).value Root)) taken; state = t }))
      moved_kept true e = record {
        good = moved_good units laid l.state k.good n r m here;
        steps = then k.steps (moved_step units laid l.state k.good n r m here).0;
        phased = moved_phased units laid l.state k.good n r m here l.nodes k.phased;
        said = said_more;
        says = λ z. ((view t).value Root, inl refl);
      }
        where
          said_more : (v : ℕ) → (answered v ≡ answered ((view t).value Root)) ⊎ In (answered v) l.answers
              → ((view t).status Root ≡ 3) × ((view t).value Root ≡ v)
          said_more v (inl q) = (eqb-true ((view t).status Root) 3 e, cc)
          said_more v (inr i) = unsaid v i
      moved_kept false e = record {
        good = moved_good units laid l.state k.good n r m here;
        steps = then k.steps (moved_step units laid l.state k.good n r m here).0;
        phased = moved_phased units laid l.state k.good n r m here l.nodes k.phased;
        said = said_more;
        says = λ z. absurd (eqb-false ((view t).status Root) 3 e z);
      }
        where
          said_more : (v : ℕ) → (answered v ≡ taken) ⊎ In (answered v) l.answers → ((view t).status Root ≡ 3) × ((view t).value Root ≡ v)
          said_more v (inl q) = let z : ◌≡◌ {A = ℕ} 0 1 = cc in absurd (omega arith)
          said_more v (inr i) = unsaid v i

    pub more_kept : (a : Ask (ℕ → Bool)) → Kept s₀ (more (circuit_step units F N body at home) l a)
    more_kept a = step_cases units F N body at home a.tags l.state a.node (λ r. Kept s₀ (logged l a.node r))
        (λ c. refused_kept a.node (number c) (place c))
        (λ r e m h. moved_kept a.node r e m h (done (view (perform N home body l.state a.node m)) (id (body F))) refl)

  -- the order of a log does not matter
  pub kept_alike : (s₀ : View) (l p : Log) → Alike l p → Kept s₀ l → Kept s₀ p
  kept_alike s₀ l p j k = record {
    good = subst (Good F body) j.state k.good;
    steps = subst (λ x. Steps units F body s₀ (view x) (length p.nodes)) j.state
        (subst (Steps units F body s₀ (view l.state)) j.number k.steps);
    phased = λ f c g q i. ap (λ x. x % 3) (sym (j.counts c)) ∙ k.phased f c g q i ∙ ap (λ x. third (view x) c) j.state;
    said = λ v i. subst (λ x. ((view x).status (id (body F)) ≡ 3) × ((view x).value (id (body F)) ≡ v)) j.state
        (k.said v (j.into (answered v) i));
    says = λ e. let x = k.says (ap (λ x. (view x).status (id (body F))) j.state ∙ e) in (x.0, j.out (answered x.0) x.1);
  }

  module _ (args : List ℕ) (few : length args ≤ 8) where
    -- main's arguments as it keeps them
    abbrev kept_args : List ℕ
    kept_args = keep_all units F args

    abbrev s₀ : View
    s₀ = view (circuit_start F body kept_args)

    started : AtStart F body s₀ kept_args
    started = start_started laid kept_args (omega (arith, few, length-map args (units.keep F)))

    no_steps : (c : ℕ) → count c [] % 3 ≡ 0
    unfolding count
    no_steps c = refl

    pub start_kept : Kept s₀ (begin (circuit_start F body kept_args))
    start_kept = record {
      good = record {
        sized = start_sized F body kept_args;
        sound = started_sound s₀ kept_args started;
      };
      steps = rest;
      phased = λ f c g q i. no_steps c ∙ sym (third_rest s₀ c (start_rest laid kept_args c));
      said = λ v i. absurd i;
      says = λ e. absurd (omega (arith, e, open_root laid kept_args));
    }

    -- what such a log says
    module _ (l : Log) (k : Kept s₀ l) where
      -- the value and the count of the reading
      pub kept_right : (v : ℕ) → In (answered v) l.answers → K F args v (length l.nodes)
      kept_right v i =
          let x = k.said v i in
          subst (λ w. K F args w (length l.nodes)) x.1
          (answer laid.well program_reads s₀ (view l.state) args (length l.nodes) (fn_main laid) started
          k.steps x.0)

      pub kept_balance : (f : ℕ) → Fn F body f
          → entries N at f l.nodes ≡ leavings N at f l.nodes + pick (eqb ((view l.state).occupant f) 0) 0 1
      kept_balance f q = entries_leavings laid (view l.state) k.good.sound f q l.nodes k.phased

      pub kept_one : (f : ℕ) → Fn F body f → entries N at f l.nodes ≤ leavings N at f l.nodes + 1
      kept_one f q = entries_one laid (view l.state) k.good.sound f q l.nodes k.phased

  -- what such a state says of a step
  module _ (s₀ : View) (l : Log) (k : Kept s₀ l) where
    -- after the answer, 20 at every node
    pub kept_over : (v n : ℕ) (tags : ℕ → Bool) → In (answered v) l.answers → Range N n
        → circuit_step units F N body at home tags l.state n ≡ refusal l.state 20 n
    kept_over v n tags i r = step_over units laid tags l.state k.good n r (k.said v i).0

    -- main is entered by nobody
    pub kept_main_free : (view l.state).occupant F ≡ 0
    kept_main_free = go (ℕ_discrete ((view l.state).occupant F) 0)
      where
        go : Dec ((view l.state).occupant F ≡ 0) → (view l.state).occupant F ≡ 0
        go (yes e) = e
        go (no e) =
            let h = k.good.sound.held F ((view l.state).occupant F) (fn_main laid) refl e in
            absurd (omega (arith, h.1.1, h.2))

    -- main has answered, or some step would be taken
    pub kept_lively : (tags : ℕ → Bool) → ((v : ℕ) × In (answered v) l.answers)
        ⊎ ((n : ℕ) × IsTaken (circuit_step units F N body at home tags l.state n).answer)
    kept_lively tags = go (ℕ_discrete ((view l.state).status (id (body F))) 3)
      where
        go : Dec ((view l.state).status (id (body F)) ≡ 3) → ((v : ℕ) × In (answered v) l.answers)
            ⊎ ((n : ℕ) × IsTaken (circuit_step units F N body at home tags l.state n).answer)
        go (yes e) = inl (k.says e)
        go (no e) = inr (some_step units laid tags l.state k.good e)

    -- of the steps taken at a call, those that enter and those that leave
    pub kept_phases : (c f : ℕ) → Range N c → calls (at c) f ≡ true → (tags : ℕ → Bool)
        → IsTaken (circuit_step units F N body at home tags l.state c).answer
        → Phases (act units body (home c) (view l.state) (at c)) f (count c l.nodes)
    kept_phases c f r e tags a = step_phases units laid tags l.state c f r e a (count c l.nodes)
        (call_phase laid (view l.state) c f r e l.nodes k.phased)

  -- a call that waits at an occupied resource is listed
  pub waits_listed : (s : View) → Sound F body s → (n : ℕ) → Range N n → Waits s (at n) → Listed body at F n
  waits_listed s sound n r w =
      let e : w.0 ≡ n = sym (ap id w.3) ∙ laid.number n r in
      let x = waiting_listed F body s (callee_at at) (sets body at F) laid.well sound callees bodies
      (home n) (laid.home_there n r) w.0 w.1 w.2
      (subst (λ u. Sub u (body (home n))) w.3 (laid.placed n r)) w.4 w.5 w.6 in
      subst (Listed body at F) e x
    where
      callees : (f c g : ℕ) → Fn F body f → CallIn c g (body f) → callee_at at c ≡ g
      callees f c g q i = ap callee (call_here laid f c g q i).1

      bodies : (g m : ℕ) → Fn F body g → C (callee_at at) (sets body at F) (body g) m → sets body at F g m
      bodies g m q = body_calls F body at m laid.well.below g q

  module _ (tags : ℕ → Bool) (holds : (n : ℕ) → Listed body at F n → tags n ≡ true) (s₀ : View) where
    not_23 : (b : Bool) → b ≡ true → ◌≡◌ {A = ℕ} 23 (pick b 22 23) → ⊥
    not_23 true e z = omega arith
    not_23 false e z = true≢false (sym e)

    -- where the tags hold the list, no step is refused 23
    pub kept_silent : (l : Log) → Kept s₀ l → (n p : ℕ) → denied 23 p ≡ (circuit_step units F N body at home tags l.state n).answer → ⊥
    kept_silent l k n p e =
        let w = step_waits units laid tags l.state k.good n 23 p (sym e) (inr refl) in
        not_23 (tags n) (holds n (waits_listed (view l.state) k.good.sound n w.0 w.1)) w.2
