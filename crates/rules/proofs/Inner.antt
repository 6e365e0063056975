-- a step inside a body keeps the circuit sound
use Prim.Native.Nat.{ℕ}
use mathlib.Core.Bool.{true}
use mathlib.Core.Path.{◌≡◌, subst, sym, ◌∙◌}
use native.Mathlib.Omega.{arith}
use native.Mathlib.Decide.{ℕ_discrete}
use Rattle.table.specs.Syntax.{Expr, Exprs, call, id, Every, Node}
use Rattle.rules.specs.Arithmetic.{Arithmetic}
use Rattle.rules.specs.State.{View}
use Rattle.rules.proofs.Shape.{Still, Busy, Opened}
use Rattle.rules.proofs.Frame.{still_over, opened_over, Avoids}
use Rattle.table.proofs.SyntaxLaws.{sub_node}
use Rattle.rules.proofs.Within.{within}
use Rattle.rules.proofs.Moves.{Inner, inner_live}
use Rattle.table.specs.Well.{CallIn, Fn}
use Rattle.table.proofs.CallPlaces.{call_node, call_at}
use Rattle.rules.proofs.Places.{inner_busy}
use Rattle.rules.proofs.Invariant.{Active, active_over, InnerStep, Holder, Sound}
use Rattle.rules.proofs.Acting.{Acting, active, live, live_part, apart, elsewhere, holder_over}

module _ {units : Arithmetic} {F : ℕ} {body : ℕ → Expr} {s s' : View} {h : ℕ} {u : Expr} (x : Acting F body s h u)
    (st : InnerStep units body s s' h u) where
  holds : (g m : ℕ) → (Node m u → ⊥) → (m ≡ 0 → ⊥) → s.occupant g ≡ m → s'.occupant g ≡ m
  holds g m k z e = (st.keeps_fn g).0 ∙ e

  untouched : (f : ℕ) → Fn F body f → (f ≡ h → ⊥) → Avoids (λ m. Node m u) (body f)
  untouched f q e m a b = elsewhere x f q e m a (sub_node u m (body h) st.place b)

  pub inner_sound : Sound F body s'
  inner_sound = record {
    opened = λ f q a. opened_f f q a (ℕ_discrete f h);
    rest = λ f q a. rest_f f q a (ℕ_discrete f h);
    held = held_f;
    top = (st.keeps_fn F).0 ∙ x.sound.top;
  }
    where
      opened_f : (f : ℕ) → Fn F body f → Active F s' f → Dec (f ≡ h) → Opened s' (body f)
      opened_f f q a (yes e) = subst (λ y. Opened s' (body y)) (sym e)
          (within s s' u st.keeps holds x.moving (inner_live s s' (units.result h) (s.register h) u st.rule) (body h)
          (apart x) st.place
          (live x))
      opened_f f q a (no e) = opened_over s s' (λ m. Node m u) st.keeps holds (body f) (untouched f q e)
          (x.sound.opened f q (active_over (sym (st.keeps_fn f).0) a))

      rest_f : (f : ℕ) → Fn F body f → (Active F s' f → ⊥) → Dec (f ≡ h) → Every (Still s') (body f)
      rest_f f q a (yes e) = absurd (a (active_over (st.keeps_fn f).0 (subst (Active F s) (sym e) (active x))))
      rest_f f q a (no e) = still_over s s' (λ m. Node m u) st.keeps (body f) (untouched f q e)
          (x.sound.rest f q (λ b. a (active_over (st.keeps_fn f).0 b)))

      not_u : (f c g : ℕ) → Fn F body g → CallIn c f (body g) → Busy s c true → Node c u → ⊥
      not_u f c g q k b i =
          let e : g ≡ h = x.well.owner g h c q x.fn (call_node c f (body g) k) (sub_node u c (body h) st.place i) in
          let j : c ≡ id u = inner_busy s c b.0 (units.result h) (s.register h) s' u st.rule (live_part x) i in
          let t = call_at u c f (sym j) (body h) (apart x) (subst (λ y. CallIn c f (body y)) e k) st.place in
          opens t.0 (subst (Inner (units.result h) (s.register h) s s') t.1 st.rule)
        where
          opens : (es : Exprs) → Inner (units.result h) (s.register h) s s' (call c f es) → ⊥
          opens es o = omega (arith, o.0.0, b.0)

      held_f : (f c : ℕ) → Fn F body f → s'.occupant f ≡ c → (c ≡ 0 → ⊥) → Holder F body s' f c
      held_f f c q e z =
          let o = x.sound.held f c q (sym (st.keeps_fn f).0 ∙ e) z in
          holder_over F body s s' f c (st.keeps c (not_u f c o.0 o.1 o.3 o.4)) o
