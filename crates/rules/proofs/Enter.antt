-- a call that enters keeps the circuit sound
use Prim.Native.Nat.{ℕ, ◌<◌}
use mathlib.Core.Bool.{true, false, true≢false}
use mathlib.Core.Path.{◌≡◌, subst, sym, ◌∙◌}
use mathlib.Core.Logic.{◌⊎◌, inl, inr}
use native.Mathlib.Decide.{ℕ_discrete}
use Rattle.table.specs.Syntax.{Expr, Exprs, call, Every, Node, Node*}
use Rattle.rules.specs.Arithmetic.{Arithmetic}
use Rattle.rules.specs.State.{View}
use Rattle.rules.proofs.Shape.{Still, Busy, Live, Opened}
use Rattle.rules.proofs.Frame.{Same, still_over, opened_over, done_over*, Avoids}
use Rattle.table.proofs.SyntaxLaws.{node?}
use Rattle.rules.proofs.Within.{within}
use Rattle.rules.proofs.Moves.{finished*}
use Rattle.rules.proofs.Mix.{mix, mix_in, mix_out}
use Rattle.table.specs.Well.{CallIn, Fn}
use Rattle.rules.proofs.Places.{still_busy}
use Rattle.rules.proofs.Invariant.{Active, active_over, EnterStep, Holder, Sound, new_live}
use Rattle.rules.proofs.Acting.{Acting, active, live, apart, elsewhere, in_h, node_h, g<h, fn_g, n≢0, h≢g, F≢g, apart_callee}
use Rattle.rules.proofs.Acting.{first_phase, apart_arguments, holder_over}

module _ {units : Arithmetic} {F : ℕ} {body : ℕ → Expr} {s s' : View} {h n g : ℕ} {es : Exprs} (x : Acting F body s h (call n g es))
    (st : EnterStep units body s s' h n g es) where
  pub asleep : Active F s g → ⊥
  asleep (inl e) = F≢g x (sym e)
  asleep (inr z) = z st.free

  -- the state after the step, but with g's body as it was
  abbrev pub t : View
  t = mix (body g) s s'

  pub keeps_t : (m : ℕ) → (m ≡ n → ⊥) → Same s t m
  keeps_t m d = go (node? m (body g))
    where
      go : Dec (Node m (body g)) → Same s t m
      go (yes k) = mix_in (body g) s s' m k
      go (no k) =
          let a = st.keeps m d k in
          let b = mix_out (body g) s s' m k in
          (sym b.0 ∙ a.0, sym b.1 ∙ a.1, sym b.2 ∙ a.2)

  -- outside n and the body of g nothing changes
  abbrev pub X : ℕ → Type 0
  X m = (m ≡ n) ⊎ Node m (body g)

  pub keeps_x : (m : ℕ) → (X m → ⊥) → Same s s' m
  keeps_x m d = st.keeps m (λ e. d (inl e)) (λ k. d (inr k))

  pub untouched : (f : ℕ) → Fn F body f → (f ≡ h → ⊥) → (f ≡ g → ⊥) → Avoids X (body f)
  untouched f q a b m k (inl e) = elsewhere x f q a m k (subst (λ y. Node y (body h)) (sym e) (node_h x))
  untouched f q a b m k (inr z) = b (x.well.owner f g m q (fn_g x) k z)

  occupants : (f m : ℕ) → (m ≡ 0 → ⊥) → s.occupant f ≡ m → s'.occupant f ≡ m
  occupants f m z e = go (ℕ_discrete f g)
    where
      go : Dec (f ≡ g) → s'.occupant f ≡ m
      go (yes p) = absurd (z (sym e ∙ subst (λ y. s.occupant y ≡ 0) (sym p) st.free))
      go (no p) = (st.keeps_fn f p).0 ∙ e

  -- the call itself, in its second phase
  entered : Live s (call n g es) → Opened t (call n g es)
  entered l =
      let b = mix_out (body g) s s' n (apart_callee x n (node_h x)) in
      inl (inr (inr (
        (sym b.0 ∙ st.enters.0, sym b.1 ∙ st.enters.1),
        done_over* s t (λ m. m ≡ n) keeps_t es
            (λ m k e. apart_arguments x (subst (λ y. Node* y es) e k)) (finished* s es (first_phase s n g es st.waits l) st.ready),
        st.occupies,
        n≢0 x,
      )))

  pub enter_sound : Sound F body s'
  enter_sound = record {
    opened = λ f q a. opened_f f q a (ℕ_discrete f h) (ℕ_discrete f g);
    rest = λ f q a. rest_f f q a (ℕ_discrete f h) (ℕ_discrete f g);
    held = λ f c q e z. held_f f c q e z (ℕ_discrete f g);
    top = (st.keeps_fn F (F≢g x)).0 ∙ x.sound.top;
  }
    where
      opened_h : Opened s' (body h)
      opened_h = opened_over t s' (λ m. Node m (body g)) (mix_out (body g) s s') (λ f m k z e. e) (body h) (apart_callee x)
          (within s t (call n g es) (λ m k. keeps_t m (λ e. k (inl e))) (λ f m k z e. occupants f m z e) x.moving entered (body h)
          (apart x) st.place (live x))

      opened_f : (f : ℕ) → Fn F body f → Active F s' f → Dec (f ≡ h) → Dec (f ≡ g) → Opened s' (body f)
      opened_f f q a (yes e) d = subst (λ y. Opened s' (body y)) (sym e) opened_h
      opened_f f q a (no e) (yes d) = subst (λ y. Opened s' (body y)) (sym d) (inl (new_live s' (body g) st.new.0 st.new.1))
      opened_f f q a (no e) (no d) = opened_over s s' X keeps_x (λ f m k z e. occupants f m z e) (body f) (untouched f q e d)
          (x.sound.opened f q (active_over (sym (st.keeps_fn f d).0) a))

      rest_f : (f : ℕ) → Fn F body f → (Active F s' f → ⊥) → Dec (f ≡ h) → Dec (f ≡ g) → Every (Still s') (body f)
      rest_f f q a (yes e) d = absurd (a (active_over (st.keeps_fn f (λ y. h≢g x (sym e ∙ y))).0 (subst (Active F s) (sym e) (active x))))
      rest_f f q a (no e) (yes d) = absurd (a (inr (λ z. n≢0 x (sym st.occupies ∙ subst (λ y. s'.occupant y ≡ 0) d z))))
      rest_f f q a (no e) (no d) = still_over s s' X keeps_x (body f) (untouched f q e d)
          (x.sound.rest f q (λ b. a (active_over (st.keeps_fn f d).0 b)))

      not_x : (f c k : ℕ) → Fn F body k → CallIn c f (body k) → Busy s c true → X c → ⊥
      not_x f c k q i b (inl e) = true≢false (sym b.1 ∙ subst (λ y. s.second y ≡ false) (sym e) st.waits.1)
      not_x f c k q i b (inr z) = still_busy s c b.0 (body g) (x.sound.rest g (fn_g x) asleep) z

      held_f : (f c : ℕ) → Fn F body f → s'.occupant f ≡ c → (c ≡ 0 → ⊥) → Dec (f ≡ g) → Holder F body s' f c
      held_f f c q e z (yes d) =
          let c≡n : n ≡ c = sym st.occupies ∙ subst (λ y. s'.occupant y ≡ c) d e in (
            h,
            x.fn,
            subst (λ y. y < h) (sym d) (g<h x).1,
            subst (λ y. CallIn c y (body h)) (sym d) (subst (λ y. CallIn y g (body h)) c≡n (in_h x)),
            subst (λ y. Busy s' y true) c≡n st.enters,
          )
      held_f f c q e z (no d) =
          let o = x.sound.held f c q (sym (st.keeps_fn f d).0 ∙ e) z in
          holder_over F body s s' f c (keeps_x c (not_x f c o.0 o.1 o.3 o.4)) o
