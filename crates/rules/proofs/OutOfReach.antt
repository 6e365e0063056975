-- a step keeps every entry of a function that main doesn't reach: it acts in the body of one that is reached, and on a callee of that
use Prim.Native.Nat.{ℕ}
use mathlib.Core.Path.{◌≡◌, refl, subst, sym, ◌∙◌}
use Rattle.table.specs.Syntax.{Expr, Node}
use Rattle.table.specs.Well.{Fn, Well}
use Rattle.table.specs.Reach.{Reached, called}
use Rattle.table.proofs.SyntaxLaws.{sub_node}
use Rattle.rules.specs.Arithmetic.{Arithmetic}
use Rattle.rules.specs.State.{View}
use Rattle.rules.proofs.Frame.{Same, SameFunction}
use Rattle.rules.proofs.Invariant.{Step, inner, enter, leave, again, Sound}
use Rattle.rules.proofs.Acting.{Acting, active, elsewhere, in_h, node_h, fn_g, inner_acts, enter_acts, leave_acts, again_acts}
use Rattle.rules.proofs.Answers.{Steps, rest, then, steps_sound}
use Rattle.rules.proofs.ActiveReached.{active_reached}

-- the entries of the nodes of f, and its own
abbrev pub KeepsBody : (body : ℕ → Expr) → View → View → ℕ → Type 0
KeepsBody body s s' f = ((m : ℕ) → Node m (body f) → Same s s' m) × SameFunction s s' f

module _ {F : ℕ} {body : ℕ → Expr} (well : Well F body) (f : ℕ) (fn : Fn F body f) (out : Reached F body f → ⊥) where
  -- another function than one that is reached
  other : {g : ℕ} → Reached F body g → f ≡ g → ⊥
  other r e = out (subst (Reached F body) (sym e) r)

  reaching : {s : View} {h : ℕ} {u : Expr} → Acting F body s h u → Reached F body h
  reaching {s} {h} x = active_reached F body s x.sound h x.fn (active x)

  apart : {s : View} {h : ℕ} {u : Expr} → Acting F body s h u → (m : ℕ) → Node m (body f) → Node m (body h) → ⊥
  apart x = elsewhere x f fn (other (reaching x))

  step_keeps : {units : Arithmetic} (s s' : View) → Sound F body s → Step units F body s s' → KeepsBody body s s' f
  step_keeps s s' d (inner h r u st) =
      let x = inner_acts well d r st in
      (λ m k. st.keeps m (λ i. apart x m k (sub_node u m (body h) st.place i)), st.keeps_fn f)
  step_keeps s s' d (enter h r n g es st) =
      let x = enter_acts well d r st in
      let g_not : f ≡ g → ⊥ = other (called h n g (reaching x) (in_h x)) in (
        λ m k. st.keeps m (λ e. apart x m k (subst (λ y. Node y (body h)) (sym e) (node_h x)))
            (λ i. g_not (well.owner f g m fn (fn_g x) k i)),
        st.keeps_fn f g_not,
      )
  step_keeps s s' d (leave h r n g es st) =
      let x = leave_acts well d r st in (
        λ m k. st.keeps m (λ e. apart x m k (subst (λ y. Node y (body h)) (sym e) (node_h x))),
        st.keeps_fn f (other (called h n g (reaching x) (in_h x))),
      )
  step_keeps s s' d (again h r n es st) =
      let x = again_acts well d r st in
      (λ m k. st.keeps m (apart x m k), st.keeps_fn f (other (reaching x)))

  pub steps_keep : {units : Arithmetic} (s s' : View) (n : ℕ) → Sound F body s → Steps units F body s s' n → KeepsBody body s s' f
  steps_keep s s' n d rest = (λ m k. (refl, refl, refl), (refl, λ i. refl))
  steps_keep s s' n d (then {t = t} p st) =
      let a = steps_keep s t _ d p in
      let b = step_keeps t s' (steps_sound well s t _ d p) st in (
        λ m k. let x = a.0 m k in let y = b.0 m k in (y.0 ∙ x.0, y.1 ∙ x.1, y.2 ∙ x.2),
        (b.1.0 ∙ a.1.0, λ i. b.1.1 i ∙ a.1.1 i),
      )
