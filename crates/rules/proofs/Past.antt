-- a step keeps the entries past N and F: a move writes within them
use Prim.Native.Nat.{ℕ, ◌≤◌, ◌<◌}
use mathlib.Core.Bool.{Bool}
use mathlib.Core.Logic.{inl, inr}
use native.Mathlib.Omega.{arith}
use Rattle.table.specs.Syntax.{Expr}
use Rattle.table.specs.Pick.{Range}
use Rattle.table.specs.Well.{Laid}
use Rattle.rules.specs.Arithmetic.{Arithmetic}
use Rattle.rules.specs.State.{State512, Sized, view}
use Rattle.rules.specs.Step.{Move, begins, turns, finishes, enters, leaves, restarts, perform, circuit_step}
use Rattle.rules.specs.Companions.{Agree}
use Rattle.rules.proofs.AgreeLaws.{agree_same, agree_fewer}
use Rattle.rules.proofs.Performed.{Fair}
use Rattle.rules.proofs.StepCases.{step_cases}
use Rattle.rules.proofs.StepFacts.{moved_does}
use Rattle.rules.proofs.Touches.{Writes, Alters, keeps_rest}

module _ (F N : ℕ) (home : ℕ → ℕ) (body : ℕ → Expr) (n : ℕ) (r : Range N n) where
  writes_within : (a : Move) → Fair F N home body n a → (m : ℕ) → Writes N home n a m → m ≤ N
  writes_within a f m (inr c) = c.2.1
  writes_within (begins ns) f m (inl (inl e)) = omega (arith, e, r.1)
  writes_within (begins ns) f m (inl (inr i)) = (f.0 m i).1
  writes_within (turns k) f m (inl (inl e)) = omega (arith, e, r.1)
  writes_within (turns k) f m (inl (inr e)) = omega (arith, e, f.1)
  writes_within (finishes v) f m (inl e) = omega (arith, e, r.1)
  writes_within (enters g vs) f m (inl e) = omega (arith, e, r.1)
  writes_within (leaves g v) f m (inl e) = omega (arith, e, r.1)
  writes_within (restarts g vs) f m (inl e) = absurd e

  alters_within : (a : Move) → Fair F N home body n a → (f : ℕ) → Alters a f → f ≤ F
  alters_within (begins ns) q f (inl e) = absurd e
  alters_within (begins ns) q f (inr e) = absurd e
  alters_within (turns k) q f (inl e) = absurd e
  alters_within (turns k) q f (inr e) = absurd e
  alters_within (finishes v) q f (inl e) = absurd e
  alters_within (finishes v) q f (inr e) = absurd e
  alters_within (enters g vs) q f (inl e) = omega (arith, e, q.1)
  alters_within (enters g vs) q f (inr e) = omega (arith, e, q.1)
  alters_within (leaves g v) q f (inl e) = absurd e
  alters_within (leaves g v) q f (inr e) = omega (arith, e, q.1)
  alters_within (restarts g vs) q f (inl e) = omega (arith, e, q.1)
  alters_within (restarts g vs) q f (inr e) = absurd e

module _ (units : Arithmetic) {F N : ℕ} {body at : ℕ → Expr} {home : ℕ → ℕ} (laid : Laid F N body at home)
    (tags : ℕ → Bool) (s : State512) (sized : Sized s) (n : ℕ) where
  abbrev PastN : ℕ → Type 0
  PastN m = N < m

  abbrev PastF : ℕ → Type 0
  PastF f = F < f

  pub step_past : Agree PastN PastF (view s) (view (circuit_step units F N body at home tags s n).state)
  step_past = step_cases units F N body at home tags s n (λ r. Agree PastN PastF (view s) (view r.state))
      (λ c. agree_same PastN PastF (view s))
      (λ r e a k. let d = moved_does units laid s sized n r a k in
      agree_fewer PastN PastF (λ m h w. omega (arith, h, writes_within F N home body n r a d.0 m w))
      (λ f h w. omega (arith, h, alters_within F N home body n r a d.0 f w))
      (keeps_rest N home body (view s) (view (perform N home body s n a)) n a d.1))
