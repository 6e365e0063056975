-- what is left of the whole circuit falls by one with each step
use Prim.Native.Nat.{ℕ, ◌+◌}
use mathlib.Core.Bool.{true≢false}
use mathlib.Core.Path.{◌≡◌, refl, subst, sym, ap, ◌∙◌, fun_ext}
use mathlib.Core.Logic.{inl, inr, ⊎_elim}
use mathlib.Core.List.{List}
use native.Mathlib.Omega.{arith}
use native.Mathlib.Decide.{ℕ_discrete}
use lib.ListN.{get_or}
use Rattle.table.specs.Syntax.{Expr, Exprs, call, self, id, Node}
use Rattle.table.specs.Well.{Fn, Well}
use Rattle.table.specs.Environment.{values, put}
use Rattle.table.proofs.SyntaxLaws.{sub_node}
use Rattle.rules.specs.Arithmetic.{Arithmetic, keep_all}
use Rattle.rules.specs.State.{View}
use Rattle.rules.specs.Reading.{Outcome, val, Readings, Reads, kept_answers}
use Rattle.rules.proofs.Frame.{Same}
use Rattle.rules.proofs.Mix.{mix_out}
use Rattle.rules.proofs.SelfCalls.{self_left}
use Rattle.rules.proofs.Counts.{left_reads, left_done, left_going, over_left, over_left*, inner_left}
use Rattle.rules.proofs.SumLaws.{put_same, put_other, sum_put}
use Rattle.rules.proofs.Invariant.{Step, inner, enter, leave, again, Active, active_over, InnerStep, EnterStep, LeaveStep, AgainStep}
use Rattle.rules.proofs.Invariant.{Sound}
use Rattle.rules.proofs.Acting.{Acting, active, live, elsewhere, node_h, fn_g, n≢0, h≢g, apart_callee}
use Rattle.rules.proofs.Acting.{inner_acts, enter_acts, leave_acts, again_acts}
use Rattle.rules.proofs.Remaining.{nowhere, gets, LeftIn, Closes, Rest, Expects, Before, rest_aside, rest_own, one_more_lem}
use Rattle.rules.specs.Reading as Reading
use Rattle.rules.proofs.Enter as Enter
use Rattle.rules.proofs.Leave as Leave

module _ (units : Arithmetic) {F : ℕ} {body : ℕ → Expr} (K : Readings) (s s' : View) {W' R' : ℕ → ℕ}
    (after : Expects units F body K s' W' R') where
  -- what holds after the step of a function that is active before it
  still : (f : ℕ) → Fn F body f → s'.occupant f ≡ s.occupant f → Active F s f → Rest units body K s' W' f (W' (s'.occupant f)) (R' f)
  still f q e a = after.active f q (active_over e a)

  idle : (f : ℕ) → Fn F body f → s'.occupant f ≡ s.occupant f → (Active F s f → ⊥) → R' f ≡ 0
  idle f q e a = after.rest f q (λ b. a (active_over (sym e) b))

  module _ {h : ℕ} {u : Expr} (x : Acting F body s h u) (st : InnerStep units body s s' h u) where
    inner_before : Before units F body K s W' R'
    inner_before = one_more_lem units F body K s W' W' R' R' h 0 x.fn (active x) (omega arith) refl
        (rest_own units body K s s' W' W' x 1 st.keeps (λ m y. refl)
        (λ ρ o k l f g. inner_left (units.result h) (kept_answers (units.keep h) K) s s' (gets units h W') (s.register h) u
        st.rule l ρ o k f g)
        (R' h) (st.keeps_fn h) refl (still h x.fn (st.keeps_fn h).0 (active x)))
        (λ f q a e. rest_aside units body K s s' W' W' (λ m. Node m u) st.keeps (λ m y. refl) f (R' f)
        (λ m y z. elsewhere x f q e m y (sub_node u m (body h) st.place z)) (st.keeps_fn f) refl (still f q (st.keeps_fn f).0 a))
        (λ f q a. idle f q (st.keeps_fn f).0 a)

  module _ {h n g : ℕ} {es : Exprs} (x : Acting F body s h (call n g es)) (st : LeaveStep units body s s' h n g es) where
    got : ℕ
    got = s.value (id (body g))

    W₁ : ℕ → ℕ
    W₁ = put W' n got

    w₁_other : (m : ℕ) → (m ≡ n → ⊥) → W' m ≡ W₁ m
    unfolding W₁
    w₁_other m d = sym (put_other W' n got m d)

    w₁_n : W₁ n ≡ got
    unfolding W₁
    w₁_n = put_same W' n got

    leaving : (ρ : ℕ → ℕ) (o : Outcome) (k : ℕ) → LeftIn units K h s' W' (s.register h) (call n g es) ρ o k
        → LeftIn units K h s W₁ (s.register h) (call n g es) ρ o (1 + k)
    unfolding got
    leaving ρ o k y =
        let z = left_done (units.result h) (kept_answers (units.keep h) K) s' (gets units h W') (s.register h) (call n g es)
        st.becomes.0 ρ o k y in
        inr (inr (st.holds.0, inr (st.holds.1, z.1 ∙ ap val (st.becomes.2 ∙ ap (units.keep h) (sym w₁_n)), omega (arith, z.2))))

    -- another function's occupant is another call
    other : (f : ℕ) → Fn F body f → (f ≡ g → ⊥) → W' (s.occupant f) ≡ W₁ (s.occupant f)
    other f q d = w₁_other (s.occupant f) (λ e. let o = x.sound.held f n q e (n≢0 x) in
        Leave.one_callee x st f n o.0 o.1 d o.3 refl)

    leave_before : Before units F body K s W' R'
    unfolding got
    leave_before = one_more_lem units F body K s W₁ W' R' R' h 0 x.fn (active x) (omega arith) (sym (w₁_other 0 (λ e. n≢0 x (sym e))))
        (rest_own units body K s s' W₁ W' x 1 (λ m k. st.keeps m (λ e. k (inl e))) (λ m k. w₁_other m (λ e. k (inl e)))
        (λ ρ o k l f q. leaving ρ o k q) (R' h) (st.keeps_fn h (h≢g x)) (other h x.fn (h≢g x))
        (still h x.fn (st.keeps_fn h (h≢g x)).0 (active x)))
        (λ f q a e. others f q a e (ℕ_discrete f g)) (λ f q a. rest f q a (ℕ_discrete f g))
      where
        over : Rest units body K s W₁ g (W₁ (s.occupant g)) 0
        over = (
          val got,
          0,
          0,
          over_left (units.result g) (kept_answers (units.keep g) K) s (gets units g W₁) (s.register g) (body g) nowhere (val got) 0
              (st.over, refl, refl),
          (ap W₁ (Leave.mine x st) ∙ w₁_n, refl),
          refl,
        )

        others : (f : ℕ) → Fn F body f → Active F s f → (f ≡ h → ⊥) → Dec (f ≡ g) → Rest units body K s W₁ f (W₁ (s.occupant f)) (R' f)
        others f q a e (yes d) =
            subst (λ y. Rest units body K s W₁ y (W₁ (s.occupant y)) (R' y)) (sym d)
            (subst (Rest units body K s W₁ g (W₁ (s.occupant g))) (sym (after.rest g (fn_g x) (Leave.asleep x st))) over)
        others f q a e (no d) = rest_aside units body K s s' W₁ W' (λ m. m ≡ n) st.keeps w₁_other f (R' f) (Leave.untouched x st f q e)
            (st.keeps_fn f d) (other f q d) (still f q (st.keeps_fn f d).0 a)

        rest : (f : ℕ) → Fn F body f → (Active F s f → ⊥) → Dec (f ≡ g) → R' f ≡ 0
        rest f q a (yes d) = absurd (a (subst (Active F s) (sym d) (Leave.active_g x st)))
        rest f q a (no d) = idle f q (st.keeps_fn f d).0 a

  -- K has what is left of a body that is new
  module _ (reads : Closes units F body K) where
    new_reads : (f : ℕ) → Fn F body f → s'.status (id (body f)) ≡ 1 → (vs : List ℕ)
        → s'.register f ≡ (λ i. get_or (keep_all units f vs) i 0) → (v : ℕ)
        → Rest units body K s' W' f v (R' f) → K f vs v (R' f)
    new_reads f q o vs e v y =
        subst (K f vs v) (sym y.5) (reads f v vs y.0 y.1 y.2 q
        (subst (λ r. Reads (units.result f) (kept_answers (units.keep f) K) r (body f) nowhere y.0 y.1) e
        (left_reads (units.result f) (kept_answers (units.keep f) K) s' (gets units f W') (s'.register f) (body f) (inr o) nowhere y.0
        y.1 y.3)) y.4)

    module _ {h n g : ℕ} {es : Exprs} (x : Acting F body s h (call n g es)) (st : EnterStep units body s s' h n g es) where
      -- the call as the plain reading has it
      called : K g (values s.value es) (W' n) (R' g)
      called = new_reads g (fn_g x) st.new.0.0 (values s.value es) (fun_ext st.arguments) (W' n)
          (subst (λ m. Rest units body K s' W' g (W' m) (R' g)) st.occupies (after.active g (fn_g x)
          (inr (λ z. n≢0 x (sym st.occupies ∙ z)))))

      at_t : Same s' (Enter.t x st) n
      at_t = let b = mix_out (body g) s s' n (apart_callee x n (node_h x)) in (sym b.0, sym b.1, sym b.2)

      entering : (ρ : ℕ → ℕ) (o : Outcome) (k : ℕ) → LeftIn units K h (Enter.t x st) W' (s.register h) (call n g es) ρ o k
          → LeftIn units K h s W' (s.register h) (call n g es) ρ o ((1 + R' g) + k)
      entering ρ o k y =
          ⊎_elim (λ z. absurd (true≢false (sym st.enters.1 ∙ sym at_t.1 ∙ z.0))) (λ z. inr (inr (
            st.waits.0,
            inl (
              st.waits.1,
              (
                values s.value es,
                units.keep h (W' n),
                0,
                R' g,
                over_left* (units.result h) (kept_answers (units.keep h) K) s (gets units h W') (s.register h) es ρ st.ready,
                (W' n, called, refl),
                z.1,
                omega (arith, z.2),
              ),
            ),
          ))) (left_going (units.result h) (kept_answers (units.keep h) K) (Enter.t x st) (gets units h W') (s.register h) (call n g es)
          (at_t.0 ∙ st.enters.0) ρ o k y)

      R₁ : ℕ → ℕ
      R₁ = put R' g 0

      r₁_other : (f : ℕ) → (f ≡ g → ⊥) → R₁ f ≡ R' f
      unfolding R₁
      r₁_other f d = put_other R' g 0 f d

      enter_before : Before units F body K s W' R'
      unfolding R₁
      enter_before = one_more_lem units F body K s W' W' R₁ R' h (R' g) x.fn (active x)
          (omega (arith, sum_put F R' g 0 (fn_g x).0 (fn_g x).1)) refl
          (subst (λ k. Rest units body K s W' h (W' (s.occupant h)) ((1 + R' g) + k)) (sym (r₁_other h (h≢g x))) own)
          (λ f q a e. others f q a e (ℕ_discrete f g)) (λ f q a. rest f q a (ℕ_discrete f g))
        where
          own : Rest units body K s W' h (W' (s.occupant h)) ((1 + R' g) + R' h)
          own = rest_own units body K s (Enter.t x st) W' W' x (1 + R' g) (λ m k. Enter.keeps_t x st m (λ e. k (inl e))) (λ m k. refl)
              (λ ρ o k l f q. entering ρ o k q) (R' h) (st.keeps_fn h (h≢g x)) refl
              (rest_aside units body K (Enter.t x st) s' W' W' (λ m. Node m (body g)) (mix_out (body g) s s') (λ m k. refl) h (R' h)
              (apart_callee x) (refl, λ i. refl) refl (still h x.fn (st.keeps_fn h (h≢g x)).0 (active x)))

          others : (f : ℕ) → Fn F body f → Active F s f → (f ≡ h → ⊥) → Dec (f ≡ g) → Rest units body K s W' f (W' (s.occupant f)) (R₁ f)
          others f q a e (yes d) = absurd (Enter.asleep x st (subst (Active F s) d a))
          others f q a e (no d) =
              subst (Rest units body K s W' f (W' (s.occupant f))) (sym (r₁_other f d))
              (rest_aside units body K s s' W' W' (Enter.X x st) (Enter.keeps_x x st) (λ m y. refl) f (R' f) (Enter.untouched x st f q e d)
              (st.keeps_fn f d) refl (still f q (st.keeps_fn f d).0 a))

          rest : (f : ℕ) → Fn F body f → (Active F s f → ⊥) → Dec (f ≡ g) → R₁ f ≡ 0
          rest f q a (yes d) = subst (λ y. R₁ y ≡ 0) (sym d) (put_same R' g 0)
          rest f q a (no d) = r₁_other f d ∙ idle f q (st.keeps_fn f d).0 a

    module _ {h n : ℕ} {es : Exprs} (x : Acting F body s h (self n es)) (st : AgainStep units body s s' h n es) where
      again_before : Before units F body K s W' R'
      again_before = one_more_lem units F body K s W' W' R' R' h 0 x.fn (active x) (omega arith) refl (
        Reading.again (values s.value es),
        1,
        R' h,
        self_left s n es st.waits st.ready (units.result h) (kept_answers (units.keep h) K) (gets units h W') (s.register h)
            (body h) (x.well.tail h x.fn) st.place (live x)
            nowhere,
        new_reads h x.fn st.new.0.0 (values s.value es) (fun_ext st.arguments) (W' (s.occupant h))
            (subst (λ m. Rest units body K s' W' h (W' m) (R' h)) (st.occupants h) (still h x.fn (st.occupants h) (active x))),
        refl,
      )
          (λ f q a e. rest_aside units body K s s' W' W' (λ m. Node m (body h)) st.keeps (λ m y. refl) f (R' f) (elsewhere x f q e)
          (st.keeps_fn f e) refl (still f q (st.occupants f) a))
          (λ f q a. idle f q (st.occupants f) a)

    pub step_before : Well F body → Sound F body s → Step units F body s s' → Before units F body K s W' R'
    step_before well sound (inner h r u st) = inner_before (inner_acts well sound r st) st
    step_before well sound (enter h r n g es st) = enter_before (enter_acts well sound r st) st
    step_before well sound (leave h r n g es st) = leave_before (leave_acts well sound r st) st
    step_before well sound (again h r n es st) = again_before (again_acts well sound r st) st
