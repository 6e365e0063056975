-- a call that leaves keeps the circuit sound
use Prim.Native.Nat.{ℕ}
use mathlib.Core.Path.{◌≡◌, subst, sym, ap, ◌∙◌}
use mathlib.Core.Logic.{inl, inr}
use native.Mathlib.Decide.{ℕ_discrete}
use Rattle.table.specs.Syntax.{Expr, Exprs, call, Every, Node, Node*}
use Rattle.rules.specs.Arithmetic.{Arithmetic}
use Rattle.rules.specs.State.{View}
use Rattle.rules.proofs.Shape.{Still, Done, Live, Opened}
use Rattle.rules.proofs.Frame.{still_over, opened_over, done_over*, Avoids}
use Rattle.rules.proofs.Within.{within}
use Rattle.rules.proofs.Moves.{finished, done*_still}
use Rattle.table.specs.Well.{CallIn, Fn}
use Rattle.table.proofs.CallPlaces.{call_node, call_at}
use Rattle.rules.proofs.Invariant.{Active, active_over, LeaveStep, Holder, Sound}
use Rattle.rules.proofs.Acting.{Acting, active, live, live_part, apart, elsewhere, node_h, fn_g, n≢0, h≢g, F≢g, apart_arguments}
use Rattle.rules.proofs.Acting.{second_phase, holder_over}

module _ {units : Arithmetic} {F : ℕ} {body : ℕ → Expr} {s s' : View} {h n g : ℕ} {es : Exprs} (x : Acting F body s h (call n g es))
    (st : LeaveStep units body s s' h n g es) where
  -- the resource is this call's
  pub mine : s.occupant g ≡ n
  mine = (second_phase s n g es st.holds (live_part x)).1

  -- g was active, its body is done, and it is active no more
  pub active_g : Active F s g
  active_g = inr (λ z. n≢0 x (sym mine ∙ z))

  done_g : Done s (body g)
  done_g = finished s (body g) (x.sound.opened g (fn_g x) active_g) st.over

  pub asleep : Active F s' g → ⊥
  asleep (inl e) = F≢g x (sym e)
  asleep (inr z) = z st.frees

  pub untouched : (f : ℕ) → Fn F body f → (f ≡ h → ⊥) → Avoids (λ m. m ≡ n) (body f)
  untouched f q a m k e = elsewhere x f q a m k (subst (λ y. Node y (body h)) (sym e) (node_h x))

  -- one call calls one function
  pub one_callee : (f c k : ℕ) → Fn F body k → (f ≡ g → ⊥) → CallIn c f (body k) → c ≡ n → ⊥
  one_callee f c k q d i e =
      let k≡h : k ≡ h = x.well.owner k h c q x.fn (call_node c f (body k) i) (subst (λ y. Node y (body h)) (sym e) (node_h x)) in
      let z = call_at (call n g es) c f (sym e) (body h) (apart x) (subst (λ y. CallIn c f (body y)) k≡h i) st.place in
      d (callees z.0 z.1)
    where
      callees : (xs : Exprs) → call n g es ≡ call c f xs → f ≡ g
      callees xs p = cc

  occupants : (f m : ℕ) → (m ≡ n → ⊥) → s.occupant f ≡ m → s'.occupant f ≡ m
  occupants f m d e = go (ℕ_discrete f g)
    where
      go : Dec (f ≡ g) → s'.occupant f ≡ m
      go (yes p) = absurd (d (sym e ∙ ap s.occupant p ∙ mine))
      go (no p) = (st.keeps_fn f p).0 ∙ e

  left : Live s (call n g es) → Opened s' (call n g es)
  left l =
      inr (
        st.becomes.0,
        (
          (inr st.becomes.0, st.becomes.1),
          done*_still s' es (done_over* s s' (λ m. m ≡ n) st.keeps es
              (λ m k e. apart_arguments x (subst (λ y. Node* y es) e k)) (second_phase s n g es st.holds l).0),
        ),
      )

  pub leave_sound : Sound F body s'
  leave_sound = record {
    opened = λ f q a. opened_f f q a (ℕ_discrete f h) (ℕ_discrete f g);
    rest = λ f q a. rest_f f q a (ℕ_discrete f h) (ℕ_discrete f g);
    held = λ f c q e z. held_f f c q e z (ℕ_discrete f g);
    top = (st.keeps_fn F (F≢g x)).0 ∙ x.sound.top;
  }
    where
      opened_f : (f : ℕ) → Fn F body f → Active F s' f → Dec (f ≡ h) → Dec (f ≡ g) → Opened s' (body f)
      opened_f f q a (yes e) d =
          subst (λ y. Opened s' (body y)) (sym e)
          (within s s' (call n g es) (λ m k. st.keeps m (λ e. k (inl e))) (λ f m k z e. occupants f m (λ y. k (inl y)) e) x.moving left
          (body h) (apart x) st.place (live x))
      opened_f f q a (no e) (yes d) = absurd (asleep (subst (Active F s') d a))
      opened_f f q a (no e) (no d) = opened_over s s' (λ m. m ≡ n) st.keeps (λ f m k z e. occupants f m k e) (body f) (untouched f q e)
          (x.sound.opened f q (active_over (sym (st.keeps_fn f d).0) a))

      rest_f : (f : ℕ) → Fn F body f → (Active F s' f → ⊥) → Dec (f ≡ h) → Dec (f ≡ g) → Every (Still s') (body f)
      rest_f f q a (yes e) d = absurd (a (active_over (st.keeps_fn f (λ y. h≢g x (sym e ∙ y))).0 (subst (Active F s) (sym e) (active x))))
      rest_f f q a (no e) (yes d) =
          subst (λ y. Every (Still s') (body y)) (sym d) (still_over s s' (λ m. m ≡ n) st.keeps (body g)
          (untouched g (fn_g x) (λ y. h≢g x (sym y))) done_g.1)
      rest_f f q a (no e) (no d) = still_over s s' (λ m. m ≡ n) st.keeps (body f) (untouched f q e)
          (x.sound.rest f q (λ b. a (active_over (st.keeps_fn f d).0 b)))

      held_f : (f c : ℕ) → Fn F body f → s'.occupant f ≡ c → (c ≡ 0 → ⊥) → Dec (f ≡ g) → Holder F body s' f c
      held_f f c q e z (yes d) = absurd (z (sym e ∙ subst (λ y. s'.occupant y ≡ 0) (sym d) st.frees))
      held_f f c q e z (no d) =
          let o = x.sound.held f c q (sym (st.keeps_fn f d).0 ∙ e) z in
          holder_over F body s s' f c (st.keeps c (one_callee f c o.0 o.1 d o.3)) o
