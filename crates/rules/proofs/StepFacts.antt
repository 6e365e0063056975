-- what a step on lists does, from any sound state
use Prim.Native.Nat.{ℕ, ◌≤◌}
use mathlib.Core.Bool.{Bool, true, false, true≢false}
use mathlib.Core.Path.{◌≡◌, refl, subst, sym, ap, ◌∙◌}
use mathlib.Core.Logic.{◌⊎◌, inl, inr, ⊎_elim}
use native.Mathlib.Omega.{arith}
use borrow.Author.Tests.{eqb-true, eq-eqb}
use Rattle.table.specs.Syntax.{Expr, id, Node, Sub}
use Rattle.rules.specs.State.{View, State512, Sized, view}
use Rattle.table.proofs.SyntaxLaws.{node_id, sub_node}
use Rattle.table.specs.Pick.{pick, Range}
use Rattle.rules.proofs.Invariant.{Sound}
use Rattle.rules.proofs.Progress.{Able, progress}
use Rattle.rules.proofs.Answers.{step_sound}
use Rattle.rules.specs.Step.{Act, stuck, blocked, does, Move, done, act, Reply, taken, answered, denied, refusal, Stepped, outcome}
use Rattle.rules.specs.Step.{perform, circuit_step}
use Rattle.rules.proofs.Performed.{Does, Acted, Fair, FairAct, perform_does, perform_sized}
use Rattle.rules.specs.Play.{IsTaken}
use Rattle.table.specs.Well.{Fn, Laid}
use Rattle.rules.specs.Arithmetic.{Arithmetic}
use Rattle.rules.proofs.LaidFacts.{fn_main}
use Rattle.rules.proofs.StepSound.{StepAt, acted_step}
use Rattle.rules.proofs.StepTaken.{Moves, Blocks, Waits, act_fair, able_moves, blocked_waits}
use Rattle.rules.proofs.StepCases.{Cause, no_node, bad_status, bad_occupant, main_done, no_move, occupied, number, place}
use Rattle.rules.proofs.StepCases.{held_only, step_cases}
use Rattle.rules.proofs.Numbered.{sub_unique}
use Rattle.rules.proofs.Bounded.{over_none, status_bound, occupant_bound}

pub told_taken : (b : Bool) (v : ℕ) → IsTaken (pick b (answered v) taken)
told_taken true v = tt
told_taken false v = tt

pub record Good (F : ℕ) (body : ℕ → Expr) (s : State512) : Type 0 where
  pub sized : Sized s
  pub sound : Sound F body (view s)

module _ (units : Arithmetic) {F N : ℕ} {body at : ℕ → Expr} {home : ℕ → ℕ} (laid : Laid F N body at home) where
  abbrev pub step : (ℕ → Bool) → State512 → ℕ → Stepped
  step = circuit_step units F N body at home

  -- what the move of a node changes, from any state of the right size
  pub moved_does : (s : State512) → Sized s → (n : ℕ) → Range N n → (m : Move) → act units body (home n) (view s) (at n) ≡ does m
      → Fair F N home body n m × Does N home body (view s) (view (perform N home body s n m)) n m
  moved_does s sized n r m here =
      let f = subst (λ x. FairAct F N home body x (does m)) (laid.number n r)
      (subst (FairAct F N home body (id (at n))) here (act_fair units laid (view s) (home n) (laid.home_there n r) (at n)
      (laid.placed n r))) in
      (f, perform_does F N home laid.functions laid.nodes s sized body n m r f)

  module _ (s : State512) (good : Good F body s) (n : ℕ) (r : Range N n) (m : Move)
      (here : act units body (home n) (view s) (at n) ≡ does m) where
    pub moved_step : StepAt units F body (view s) (view (perform N home body s n m)) n
    moved_step =
        let t : View = view (perform N home body s n m) in
        subst (StepAt units F body (view s) t) (laid.number n r)
        (acted_step units laid (view s) t good.sound (home n) (laid.home_there n r) (at n) (laid.placed n r)
        (subst (Acted N home body (view s) t (id (at n))) (sym here)
        (subst (λ x. Does N home body (view s) t x m) (sym (laid.number n r))
        (moved_does s good.sized n r m here).1)))

    pub moved_good : Good F body (perform N home body s n m)
    moved_good = record {
      sized = perform_sized N home s good.sized body n m;
      sound = step_sound laid.well (view s) (view (perform N home body s n m)) good.sound moved_step.0;
    }

  -- when a step is refused, and when it isn't
  module _ (tags : ℕ → Bool) (s : State512) (good : Good F body s) (n : ℕ) where
    abbrev Causes : Type 0
    Causes = Cause units F N body at home tags s n

    abbrev by_act : Act → Stepped
    by_act = outcome units F N body at home tags s n

    -- at a node of a sound state main's root is done, or the refusal is what the node's act says
    sound_cause : Range N n → (c : Causes) → ((done (view s) (id (body F)) ≡ true) × (number c ≡ 20) × (place c ≡ n))
        ⊎ ((done (view s) (id (body F)) ≡ false) × (refusal s (number c) (place c) ≡ by_act (act units body (home n) (view s) (at n))))
    sound_cause r (no_node e) = absurd (e r)
    sound_cause r (bad_status q e) =
        absurd (true≢false (sym e ∙ over_none 3 N s.status (status_bound laid (view s) good.sound)))
    sound_cause r (bad_occupant q e) =
        absurd (true≢false (sym e ∙ over_none N F s.occupant (occupant_bound laid (view s) good.sound)))
    sound_cause r (main_done q e) = inl (e, refl, refl)
    sound_cause r (no_move q e h) = inr (e, ap by_act (sym h))
    sound_cause r (occupied q e h) = inr (e, ap by_act (sym h))

    -- 22 and 23 only for a call that waits at an occupied resource
    abbrev Held : Reply → Type 0
    Held x = (k p : ℕ) → x ≡ denied k p → (k ≡ 22) ⊎ (k ≡ 23) → Range N n × Waits (view s) (at n) × (k ≡ pick (tags n) 22 23) × (p ≡ n)

    told_not : (b : Bool) (v : ℕ) → Held (pick b (answered v) taken)
    told_not true v k p e h = let z : ◌≡◌ {A = ℕ} 0 1 = cc in absurd (omega arith)
    told_not false v k p e h = let z : ◌≡◌ {A = ℕ} 0 1 = cc in absurd (omega arith)

    cause_held : (c : Causes) → Held (denied (number c) (place c))
    cause_held c k p e h =
        let i : number c ≡ k = cc in
        let j : place c ≡ p = cc in
        let w = held_only c (⊎_elim (λ z. inl (i ∙ z)) (λ z. inr (i ∙ z)) h) in (
          w.0,
          blocked_waits units laid (view s) (home n) (laid.home_there n w.0) (at n) (subst Blocks (sym w.1) tt),
          sym i ∙ w.2,
          sym j ∙ w.3,
        )

    pub step_waits : Held (step tags s n).answer
    step_waits = step_cases units F N body at home tags s n (λ r. Held r.answer) cause_held
        (λ r e m h. told_not (done (view (perform N home body s n m)) (id (body F)))
        ((view (perform N home body s n m)).value (id (body F))))

    -- while main's root isn't done, a step at a node is what the node's act says ..
    pub step_outcome : Range N n → ((view s).status (id (body F)) ≡ 3 → ⊥)
        → step tags s n ≡ outcome units F N body at home tags s n (act units body (home n) (view s) (at n))
    step_outcome r e = step_cases units F N body at home tags s n (λ r. r ≡ by_act (act units body (home n) (view s) (at n)))
        (λ c. ⊎_elim (λ x. absurd (e (eqb-true ((view s).status (id (body F))) 3 x.0))) (λ x. x.1) (sound_cause r c))
        (λ q f m h. ap by_act (sym h))

    -- .. so a node that moves isn't refused
    pub step_moves : Range N n → ((view s).status (id (body F)) ≡ 3 → ⊥) → Moves (act units body (home n) (view s) (at n))
        → IsTaken (step tags s n).answer
    step_moves r e a = subst (λ x. IsTaken x.answer) (sym (step_outcome r e)) (go (act units body (home n) (view s) (at n)) a)
      where
        go : (x : Act) → Moves x → IsTaken (by_act x).answer
        go (does m) k = told_taken (done (view (perform N home body s n m)) (id (body F)))
            ((view (perform N home body s n m)).value (id (body F)))
        go stuck k = k
        go blocked k = k

    -- main done: 20 at every node
    pub step_over : Range N n → (view s).status (id (body F)) ≡ 3 → step tags s n ≡ refusal s 20 n
    step_over r e =
        let d : done (view s) (id (body F)) ≡ true = eq-eqb ((view s).status (id (body F))) 3 e in
        step_cases units F N body at home tags s n (λ r. r ≡ refusal s 20 n)
        (λ c. ⊎_elim (λ x. let p = x.1 in
        let q = x.2 in
        (λ i. refusal s (p i) (q i))) (λ x. absurd (true≢false (sym d ∙ x.0))) (sound_cause r c))
        (λ q f m h. absurd (true≢false (sym d ∙ f)))

    -- a node that is able to in the abstract circuit
    pub step_able : (h : ℕ) → Fn F body h → (u : Expr) → Sub u (body h) → id u ≡ n → Able body (view s) u
        → ((view s).status (id (body F)) ≡ 3 → ⊥) → IsTaken (step tags s n).answer
    step_able h q u p e a d = step_moves there d (subst (λ f. Moves (act units body f (view s) (at n))) (sym i.0)
        (subst (λ x. Moves (act units body h (view s) x)) same (able_moves units laid (view s) h q u a)))
      where
        i : (home n ≡ h) × (1 ≤ n) × (n ≤ N)
        i = laid.inside h n q (subst (λ m. Node m (body h)) e (sub_node u (id u) (body h) p (node_id u)))

        there : Range N n
        there = (i.1, i.2)

        same : u ≡ at n
        same = sub_unique u (at n) (e ∙ sym (laid.number n (i.1, i.2))) (body h) (laid.well.apart h q) p
            (subst (λ f. Sub (at n) (body f)) i.0 (laid.placed n (i.1, i.2)))

  -- while main's root isn't done, some node's step isn't refused
  pub some_step : (tags : ℕ → Bool) (s : State512) → Good F body s → ((view s).status (id (body F)) ≡ 3 → ⊥)
      → (n : ℕ) × IsTaken (step tags s n).answer
  some_step tags s good d =
      let x = progress body (view s) laid.well good.sound (fn_main laid) d in
      (id x.2.0, step_able tags s good (id x.2.0) x.0 x.1 x.2.0 x.2.1 refl x.2.2 d)
