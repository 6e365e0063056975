-- a self call keeps the circuit sound
use Prim.Native.Nat.{ℕ}
use mathlib.Core.Bool.{true}
use mathlib.Core.Path.{◌≡◌, subst, sym, ◌∙◌}
use mathlib.Core.Logic.{inl}
use native.Mathlib.Decide.{ℕ_discrete}
use Rattle.table.specs.Syntax.{Expr, Exprs, self, Every, Node}
use Rattle.rules.specs.Arithmetic.{Arithmetic}
use Rattle.rules.specs.State.{View}
use Rattle.rules.proofs.Shape.{Still, Busy, Opened}
use Rattle.rules.proofs.Frame.{still_over, opened_over}
use Rattle.table.specs.Well.{CallIn, Fn}
use Rattle.table.proofs.CallPlaces.{call_node}
use Rattle.rules.proofs.SelfCalls.{self_alone_lem}
use Rattle.rules.proofs.Invariant.{Active, active_over, AgainStep, Holder, Sound, new_live}
use Rattle.rules.proofs.Acting.{Acting, active, live, elsewhere, holder_over}

module _ {units : Arithmetic} {F : ℕ} {body : ℕ → Expr} {s s' : View} {h n : ℕ} {es : Exprs} (x : Acting F body s h (self n es))
    (st : AgainStep units body s s' h n es) where
  abbrev X : ℕ → Type 0
  X m = Node m (body h)

  holds : (f m : ℕ) → (X m → ⊥) → (m ≡ 0 → ⊥) → s.occupant f ≡ m → s'.occupant f ≡ m
  holds f m k z e = st.occupants f ∙ e

  pub again_sound : Sound F body s'
  again_sound = record {
    opened = λ f q a. opened_f f q a (ℕ_discrete f h);
    rest = λ f q a. rest_f f q a (ℕ_discrete f h);
    held = held_f;
    top = st.occupants F ∙ x.sound.top;
  }
    where
      opened_f : (f : ℕ) → Fn F body f → Active F s' f → Dec (f ≡ h) → Opened s' (body f)
      opened_f f q a (yes e) = subst (λ y. Opened s' (body y)) (sym e) (inl (new_live s' (body h) st.new.0 st.new.1))
      opened_f f q a (no e) = opened_over s s' X st.keeps holds (body f) (elsewhere x f q e)
          (x.sound.opened f q (active_over (sym (st.occupants f)) a))

      rest_f : (f : ℕ) → Fn F body f → (Active F s' f → ⊥) → Dec (f ≡ h) → Every (Still s') (body f)
      rest_f f q a (yes e) = absurd (a (active_over (st.occupants f) (subst (Active F s) (sym e) (active x))))
      rest_f f q a (no e) = still_over s s' X st.keeps (body f) (elsewhere x f q e)
          (x.sound.rest f q (λ b. a (active_over (st.occupants f) b)))

      not_h : (f c k : ℕ) → Fn F body k → CallIn c f (body k) → Busy s c true → X c → ⊥
      not_h f c k q i b y =
          let e : k ≡ h = x.well.owner k h c q x.fn (call_node c f (body k) i) y in
          self_alone_lem s n es st.waits st.ready c f b.0 (body h) (x.well.tail h x.fn) st.place (live x)
          (subst (λ y. CallIn c f (body y)) e i)

      held_f : (f c : ℕ) → Fn F body f → s'.occupant f ≡ c → (c ≡ 0 → ⊥) → Holder F body s' f c
      held_f f c q e z =
          let o = x.sound.held f c q (sym (st.occupants f) ∙ e) z in
          holder_over F body s s' f c (st.keeps c (not_h f c o.0 o.1 o.3 o.4)) o
