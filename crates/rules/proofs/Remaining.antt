-- what each function that is under way is to return, and the steps that are left of it; what a step leaves of that
use Prim.Native.Nat.{ℕ, suc, ◌+◌}
use mathlib.Core.Path.{◌≡◌, subst, sym, ap, ◌∙◌, fun_ext}
use mathlib.Core.List.{List}
use native.Mathlib.Omega.{arith}
use native.Mathlib.Decide.{ℕ_discrete}
use Rattle.table.specs.Syntax.{Expr, Node}
use Rattle.table.specs.Well.{Fn}
use Rattle.rules.proofs.Sees.{Sees, sees_body}
use Rattle.table.specs.Environment.{put}
use Rattle.table.specs.Find.{total}
use Rattle.rules.specs.Arithmetic.{Arithmetic}
use Rattle.rules.specs.State.{View}
use Rattle.rules.specs.Reading.{Outcome, val, Readings, kept_answers, BodyReads}
use Rattle.rules.proofs.Shape.{Live}
use Rattle.rules.proofs.Frame.{Same, SameFunction, Avoids}
use Rattle.rules.proofs.Left.{Left}
use Rattle.rules.proofs.LeftFacts.{left_over, left_within}
use Rattle.rules.proofs.SumLaws.{put_same, put_other, sum_put}
use Rattle.rules.proofs.Invariant.{Active}
use Rattle.rules.proofs.Acting.{Acting, live, apart}
use Rattle.rules.specs.Reading as Reading

-- what an outcome of the body of f comes to
abbrev pub Ends : Readings → ℕ → Outcome → ℕ → ℕ → Type 0
Ends K f (val w) v i = (v ≡ w) × (i ≡ 0)
Ends K f (Reading.again vs) v i = K f vs v i

-- nothing is bound around a body
abbrev pub nowhere : ℕ → ℕ
nowhere d = 0

-- what the calls in the body of f get, W telling what their callees answer
abbrev pub gets : Arithmetic → (f : ℕ) → (W : ℕ → ℕ) → ℕ → ℕ
gets units f W m = units.keep f (W m)

-- K has what a body reads to, also over a self call
abbrev pub Closes : (units : Arithmetic) (F : ℕ) (body : ℕ → Expr) (K : Readings) → Type 0
Closes units F body K = (f v : ℕ) (vs : List ℕ) (o : Outcome) (j i : ℕ) → Fn F body f
    → BodyReads (units.result f) (units.keep f) K (body f) vs o j → Ends K f o v i → K f vs v (j + i)

-- what is left of a part of the body of f
abbrev pub LeftIn : (units : Arithmetic) (K : Readings) (f : ℕ) → View → (W args : ℕ → ℕ) → Expr → (ℕ → ℕ) → Outcome → ℕ → Type 0
LeftIn units K f s W args = Left (units.result f) (kept_answers (units.keep f) K) s (gets units f W) args

module _ (units : Arithmetic) (body : ℕ → Expr) (K : Readings) where
  -- f, as it stands, is to return v after k more steps of its own and of the calls that it has yet to make
  abbrev pub Rest : View → (ℕ → ℕ) → ℕ → ℕ → ℕ → Type 0
  Rest s W f v k = (o : Outcome) × (j i : ℕ) × LeftIn units K f s W (s.register f) (body f) nowhere o j × Ends K f o v i × (k ≡ j + i)

  module _ (s s' : View) (W W' : ℕ → ℕ) where
    -- a function that the step does not touch
    module _ (X : ℕ → Type 0) (keeps : (m : ℕ) → (X m → ⊥) → Same s s' m) (expects : (m : ℕ) → (X m → ⊥) → W' m ≡ W m) where
      pub rest_aside : (f k : ℕ) → Avoids X (body f) → SameFunction s s' f → W' (s.occupant f) ≡ W (s.occupant f)
          → Rest s' W' f (W' (s'.occupant f)) k → Rest s W f (W (s.occupant f)) k
      rest_aside f k c g e y = (
        y.0,
        y.1,
        y.2,
        left_over (units.result f) (kept_answers (units.keep f) K) s s' (gets units f W) (gets units f W') (s.register f) X keeps
            (λ m d. ap (units.keep f) (expects m d)) (body f) c nowhere y.0 y.1
            (subst (λ r. LeftIn units K f s' W' r (body f) nowhere y.0 y.1) (fun_ext g.1) y.3),
        subst (λ v. Ends K f y.0 v y.2) (ap W' g.0 ∙ e) y.4,
        y.5,
      )

    -- the function whose part u takes the step
    module _ {F h : ℕ} {u : Expr} (x : Acting F body s h u) (d : ℕ) (keeps : (m : ℕ) → (Node m u → ⊥) → Same s s' m)
        (expects : (m : ℕ) → (Node m u → ⊥) → W' m ≡ W m)
        (local : (ρ : ℕ → ℕ) (o : Outcome) (k : ℕ) → Live s u → Sees s.value u ρ → LeftIn units K h s' W' (s.register h) u ρ o k
        → LeftIn units K h s W (s.register h) u ρ o (d + k)) where
      pub rest_own : (k : ℕ) → SameFunction s s' h → W' (s.occupant h) ≡ W (s.occupant h) → Rest s' W' h (W' (s'.occupant h)) k
          → Rest s W h (W (s.occupant h)) (d + k)
      rest_own k g e y = (
        y.0,
        d + y.1,
        y.2,
        left_within (units.result h) (kept_answers (units.keep h) K) s s' (gets units h W) (gets units h W') (s.register h) u d keeps
            (λ m k. ap (units.keep h) (expects m k)) x.moving local (body h) (apart x) x.place nowhere y.0
            y.1 (live x) (sees_body s.value (body h) (x.well.scoped h x.fn))
            (subst (λ r. LeftIn units K h s' W' r (body h) nowhere y.0 y.1) (fun_ext g.1) y.3),
        subst (λ v. Ends K h y.0 v y.2) (ap W' g.0 ∙ e) y.4,
        omega (arith, y.5),
      )

module _ (units : Arithmetic) (F : ℕ) (body : ℕ → Expr) (K : Readings) where
  -- W m is what the call m is to get, R f what is left of f
  pub record Expects (s : View) (W R : ℕ → ℕ) : Type 0 where
    pub active : (f : ℕ) → Fn F body f → Active F s f → Rest units body K s W f (W (s.occupant f)) (R f)
    pub rest : (f : ℕ) → Fn F body f → (Active F s f → ⊥) → R f ≡ 0

  -- in s one more step was left than in the state that W' and R' speak of
  abbrev pub Before : View → (ℕ → ℕ) → (ℕ → ℕ) → Type 0
  Before s W' R' = (W R : ℕ → ℕ) × Expects s W R × (total R F ≡ suc (total R' F)) × (W 0 ≡ W' 0)

  -- it was h's step: h had that one more to go, and the d that another has after it
  module _ (s : View) (W W' R R' : ℕ → ℕ) (h d : ℕ) (r : Fn F body h) (a : Active F s h) where
    pub one_more_lem : total R F + d ≡ total R' F → W 0 ≡ W' 0 → Rest units body K s W h (W (s.occupant h)) ((1 + d) + R h)
        → ((f : ℕ) → Fn F body f → Active F s f → (f ≡ h → ⊥) → Rest units body K s W f (W (s.occupant f)) (R f))
        → ((f : ℕ) → Fn F body f → (Active F s f → ⊥) → R f ≡ 0) → Before s W' R'
    one_more_lem sum top own others idle = (
      W,
      put R h ((1 + d) + R h),
      record {
        active = λ f q b. act f q b (ℕ_discrete f h);
        rest = λ f q b. put_other R h ((1 + d) + R h) f (λ e. b (subst (Active F s) (sym e) a)) ∙ idle f q b;
      },
      omega (arith, sum_put F R h ((1 + d) + R h) r.0 r.1),
      top,
    )
      where
        act : (f : ℕ) → Fn F body f → Active F s f → Dec (f ≡ h)
            → Rest units body K s W f (W (s.occupant f)) (put R h ((1 + d) + R h) f)
        act f q b (yes e) = subst (λ y. Rest units body K s W y (W (s.occupant y)) (put R h ((1 + d) + R h) y)) (sym e)
            (subst (Rest units body K s W h (W (s.occupant h))) (sym (put_same R h ((1 + d) + R h))) own)
        act f q b (no e) = subst (Rest units body K s W f (W (s.occupant f))) (sym (put_other R h ((1 + d) + R h) f e)) (others f q b e)
