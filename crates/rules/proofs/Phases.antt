-- the steps of a call by threes: the first begins, the second enters its callee, the third leaves it
use Prim.Native.Nat.{ℕ, ◌%◌}
use mathlib.Core.Bool.{Bool, true, false}
use mathlib.Core.Path.{◌≡◌, refl, subst, sym, ap, ◌∙◌}
use mathlib.Core.List.{List}
use native.Mathlib.Omega.{arith}
use lib.Dec.{eqb}
use Rattle.table.specs.Syntax.{Expr, Exprs, call, id}
use Rattle.table.specs.Pick.{Range}
use Rattle.table.specs.Well.{Laid}
use Rattle.rules.specs.Arithmetic.{Arithmetic}
use Rattle.rules.specs.State.{View, State512, view}
use Rattle.rules.specs.Step.{Act, does, begins, enters, leaves, done, all_done, act, circuit_step}
use Rattle.rules.specs.Play.{calls, IsTaken}
use Rattle.rules.specs.Companions.{Phases}
use Rattle.rules.proofs.ActCases.{by_pick, by_state}
use Rattle.rules.proofs.StepTaken.{Moves}
use Rattle.rules.proofs.StepCases.{step_cases}
use Rattle.rules.proofs.Thirds.{third, third_busy, third_rest}
use Rattle.rules.proofs.Occupied.{calls_call}

module _ (f k : ℕ) where
  begins_phase : (ns : List ℕ) → k % 3 ≡ 0 → Phases (does (begins ns)) f k
  begins_phase ns e = record {
    entering = λ z. absurd (omega (arith, e, z));
    entered = λ g vs z. let o : ◌≡◌ {A = ℕ} 0 1 = cc in absurd (omega arith);
    leaving = λ z. absurd (omega (arith, e, z));
    left = λ g v z. let o : ◌≡◌ {A = ℕ} 0 1 = cc in absurd (omega arith);
  }

  enters_phase : (vs : List ℕ) → k % 3 ≡ 1 → Phases (does (enters f vs)) f k
  enters_phase vs e = record {
    entering = λ z. (vs, refl);
    entered = λ g ws z. (e, cc);
    leaving = λ z. absurd (omega (arith, e, z));
    left = λ g v z. let o : ◌≡◌ {A = ℕ} 0 1 = cc in absurd (omega arith);
  }

  leaves_phase : (v : ℕ) → k % 3 ≡ 2 → Phases (does (leaves f v)) f k
  leaves_phase v e = record {
    entering = λ z. absurd (omega (arith, e, z));
    entered = λ g vs z. let o : ◌≡◌ {A = ℕ} 0 1 = cc in absurd (omega arith);
    leaving = λ z. (v, refl);
    left = λ g w z. (e, cc);
  }

module _ (units : Arithmetic) (body : ℕ → Expr) (s : View) (h n f : ℕ) (es : Exprs) (k : ℕ) (phase : k % 3 ≡ third s n) where
  abbrev Goal : Act → Type 0
  Goal x = Moves x → Phases x f k

  call_phases : Goal (act units body h s (call n f es))
  call_phases = by_state Goal (s.status n) _ _
      (λ o m. begins_phase f k _ (phase ∙ third_rest s n (λ e. omega (arith, o, e))))
      (λ t. by_pick Goal (s.second n) _ _
      (λ w. by_pick Goal (done s (id (body f))) _ _ (λ e m. leaves_phase f k _ (phase ∙ third_busy s n true (t, w))) (λ e. absurd))
      (λ w. by_pick Goal (all_done s es) _ _
      (λ e. by_pick Goal (eqb (s.occupant f) 0) _ _ (λ z m. enters_phase f k _ (phase ∙ third_busy s n false (t, w))) (λ z. absurd))
      (λ e. absurd)))
      absurd

module _ (units : Arithmetic) {F N : ℕ} {body at : ℕ → Expr} {home : ℕ → ℕ} (laid : Laid F N body at home)
    (tags : ℕ → Bool) (s : State512) where
  -- a step taken at a node is its move
  pub taken_moves : (n : ℕ) → IsTaken (circuit_step units F N body at home tags s n).answer
      → Moves (act units body (home n) (view s) (at n))
  taken_moves n = step_cases units F N body at home tags s n
      (λ r. IsTaken r.answer → Moves (act units body (home n) (view s) (at n))) (λ c. absurd) (λ r e m h a. subst Moves (sym h) tt)

  pub step_phases : (c f : ℕ) → Range N c → calls (at c) f ≡ true → IsTaken (circuit_step units F N body at home tags s c).answer
      → (k : ℕ) → k % 3 ≡ third (view s) c → Phases (act units body (home c) (view s) (at c)) f k
  step_phases c f r e a k ph =
      let x = calls_call (at c) f e in
      let i : x.0 ≡ c = sym (ap id x.2) ∙ laid.number c r in
      subst (λ u. Phases (act units body (home c) (view s) u) f k) (sym x.2)
      (call_phases units body (view s) (home c) x.0 f x.1 k (ph ∙ ap (third (view s)) (sym i))
      (subst (λ u. Moves (act units body (home c) (view s) u)) x.2 (taken_moves c a)))
