-- a function's own set holds the calls of its body, and those of the bodies called in it
use Rattle.std.proofs.Common.{◌≡◌, ℕ, zero, suc, ◌+◌, ◌-◌, ◌<◌, ◌≤◌, ◌⊎◌, sym, refl, ◌∙◌, subst, inl, inr, ⊎_elim, not-suc-le-zero, suc-add}
use Rattle.std.proofs.Common.{arith}
use native.Mathlib.Decide.{ℕ_discrete}
use Rattle.table.specs.Syntax.{Expr, Exprs, const, param, prim, call, self, cond, bind, bound, none, some}
use Rattle.list.specs.Sets.{Calls}
use Rattle.list.specs.Conflict.{C, C*}
use Rattle.table.specs.Well.{Fn, CallIn, CallIn*}
use Rattle.table.specs.Pick.{mixed}
use Rattle.list.specs.CallSets.{callee_at, sets}

-- a change of the callees' sets
module _ (callee : ℕ → ℕ) (B B' : ℕ → Calls) (m : ℕ) where
  mutual
    c_over : (e : Expr) → ((c g : ℕ) → CallIn c g e → B g m → B' g m) → C callee B e m → C callee B' e m
    c_over (const n v) f h = h
    c_over (param n i) f h = h
    c_over (prim n op es) f h = c_over* es f h
    c_over (call n g es) f (inl h) = inl (c_over* es (λ c k i. f c k (inr i)) h)
    c_over (call n g es) f (inr (inl h)) = inr (inl h)
    c_over (call n g es) f (inr (inr h)) = inr (inr (f n g (inl (refl, refl)) h))
    c_over (self n es) f h = c_over* es f h
    c_over (cond n a b c) f (inl h) = inl (c_over a (λ x k i. f x k (inl i)) h)
    c_over (cond n a b c) f (inr (inl h)) = inr (inl (c_over b (λ x k i. f x k (inr (inl i))) h))
    c_over (cond n a b c) f (inr (inr h)) = inr (inr (c_over c (λ x k i. f x k (inr (inr i))) h))
    c_over (bind n ds b) f (inl h) = inl (c_over* ds (λ x k i. f x k (inl i)) h)
    c_over (bind n ds b) f (inr h) = inr (c_over b (λ x k i. f x k (inr i)) h)
    c_over (bound n d) f h = h

    c_over* : (es : Exprs) → ((c g : ℕ) → CallIn* c g es → B g m → B' g m) → C* callee B es m → C* callee B' es m
    c_over* none f h = h
    c_over* (some e es) f (inl h) = inl (c_over e (λ c k i. f c k (inl i)) h)
    c_over* (some e es) f (inr h) = inr (c_over* es (λ c k i. f c k (inr i)) h)

-- a call that stands in an expression is in its set, and so is what its callee's set holds
module _ (callee : ℕ → ℕ) (B : ℕ → Calls) (c g m : ℕ) (goes : (c ≡ m) ⊎ B g m) where
  mutual
    pub calls_in_lem : (e : Expr) → CallIn c g e → C callee B e m
    calls_in_lem (const n v) i = absurd i
    calls_in_lem (param n j) i = absurd i
    calls_in_lem (prim n op es) i = calls_in_lem* es i
    calls_in_lem (call n h es) (inl i) = inr (⊎_elim (λ z. inl (i.0 ∙ z)) (λ y. inr (subst (λ k. B k m) (sym i.1) y)) goes)
    calls_in_lem (call n h es) (inr i) = inl (calls_in_lem* es i)
    calls_in_lem (self n es) i = calls_in_lem* es i
    calls_in_lem (cond n x y z) (inl i) = inl (calls_in_lem x i)
    calls_in_lem (cond n x y z) (inr (inl i)) = inr (inl (calls_in_lem y i))
    calls_in_lem (cond n x y z) (inr (inr i)) = inr (inr (calls_in_lem z i))
    calls_in_lem (bind n ds b) (inl i) = inl (calls_in_lem* ds i)
    calls_in_lem (bind n ds b) (inr i) = inr (calls_in_lem b i)
    calls_in_lem (bound n d) i = absurd i

    calls_in_lem* : (es : Exprs) → CallIn* c g es → C* callee B es m
    calls_in_lem* none i = absurd i
    calls_in_lem* (some e es) (inl i) = inl (calls_in_lem e i)
    calls_in_lem* (some e es) (inr i) = inr (calls_in_lem* es i)

module _ (F : ℕ) (body at : ℕ → Expr) (m : ℕ) where
  abbrev S : ℕ → ℕ → Calls
  S = sets body at

  lift : (t g : ℕ) → g ≤ t → S t g m → S (suc t) g m
  lift t g h x = go (ℕ_discrete g (suc t))
    where
      go : (d : Dec (g ≡ suc t)) → mixed d (C (callee_at at) (S t) (body g) m) (S t g m)
      go (yes e) = absurd (omega (arith, e, h))
      go (no e) = x

  lower : (t g : ℕ) → g ≤ t → S (suc t) g m → S t g m
  lower t g h x = go (ℕ_discrete g (suc t)) x
    where
      go : (d : Dec (g ≡ suc t)) → mixed d (C (callee_at at) (S t) (body g) m) (S t g m) → S t g m
      go (yes e) y = absurd (omega (arith, e, h))
      go (no e) y = y

  own : (t : ℕ) → C (callee_at at) (S t) (body (suc t)) m → S (suc t) (suc t) m
  own t x = go (ℕ_discrete (suc t) (suc t))
    where
      go : (d : Dec (suc t ≡ suc t)) → mixed d (C (callee_at at) (S t) (body (suc t)) m) (S t (suc t) m)
      go (yes e) = x
      go (no e) = absurd (e refl)

  zero_plus : (t : ℕ) → 0 + t ≡ t
  zero_plus t = omega arith

  raise : (d t g : ℕ) → g ≤ t → S t g m → S (d + t) g m
  raise zero t g h x = subst (λ n. S n g m) (sym (zero_plus t)) x
  raise (suc d) t g h x = subst (λ n. S n g m) (sym (suc-add d t)) (lift (d + t) g (omega arith) (raise d t g h x))

  sink : (d t g : ℕ) → g ≤ t → S (d + t) g m → S t g m
  sink zero t g h x = subst (λ n. S n g m) (zero_plus t) x
  sink (suc d) t g h x = sink d t g h (lower (d + t) g (omega arith) (subst (λ n. S n g m) (suc-add d t) x))

  -- a body's calls, its callees' included, are in its set
  pub body_calls : ((f c g : ℕ) → Fn F body f → CallIn c g (body f) → (1 ≤ g) × (g < f)) → (g : ℕ) → Fn F body g
      → C (callee_at at) (S F) (body g) m → S F g m
  body_calls below zero r x = absurd (not-suc-le-zero r.0)
  body_calls below (suc t) r x = subst (λ n. S n (suc t) m) diff.1 (raise diff.0 (suc t) (suc t) (omega arith) (own t here))
    where
      diff : (d : ℕ) × (d + suc t ≡ F)
      diff = (F - suc t, omega (arith, r.1))

      down : (g : ℕ) → g ≤ suc t → S F g m → S (suc t) g m
      down g h y = sink diff.0 (suc t) g h (subst (λ n. S n g m) (sym diff.1) y)

      here : C (callee_at at) (S t) (body (suc t)) m
      here = c_over (callee_at at) (S F) (S t) m (body (suc t))
          (λ c g i y. lower t g (omega (arith, (below (suc t) c g r i).1)) (down g (omega (arith, (below (suc t) c g r i).1)) y)) x
