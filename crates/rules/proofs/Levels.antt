-- the readings, function by function, are what the proof about the circuit asks for, and what each body says of its callees
use Prim.Native.Nat.{ℕ, zero, suc, ◌+◌, ◌≤◌}
use mathlib.Core.Path.{◌≡◌, refl, subst, sym}
use mathlib.Core.Logic.{◌↔◌, inl, inr}
use mathlib.Core.List.{List, map}
use native.Mathlib.Omega.{arith}
use native.Mathlib.Decide.{ℕ_discrete}
use lib.ListN.{get_or}
use Rattle.table.specs.Syntax.{Expr, Exprs, const, param, prim, call, self, cond, bind, bound, none, some}
use Rattle.rules.specs.Reading.{Outcome, val, again, Readings, Reads, Reads*, kept_answers, BodyReads, stops, goes, Rounds, readings}
use Rattle.rules.specs.Arithmetic.{Arithmetic}
use Rattle.rules.proofs.Branches.{chosen_map}
use Rattle.table.specs.Environment.{extend}
use Rattle.table.specs.Pick.{mixed}
use Rattle.table.specs.Well.{CallIn, CallIn*, Fn, Well}
use Rattle.rules.proofs.Remaining.{Ends, Closes}

-- a change of what calls read to, for the calls of e
module _ (apply : ℕ → List ℕ → ℕ) (K K' : Readings) (args : ℕ → ℕ) where
  abbrev Over : (ℕ → Type 0) → Type 0
  Over P = (g v k : ℕ) (vs : List ℕ) → P g → K g vs v k → K' g vs v k

  mutual
    pub reads_over : (e : Expr) → Over (λ g. (c : ℕ) × CallIn c g e) → (ρ : ℕ → ℕ) (o : Outcome) (k : ℕ) → Reads apply K args e ρ o k
        → Reads apply K' args e ρ o k
    reads_over (const n v) f ρ o k h = h
    reads_over (param n i) f ρ o k h = h
    reads_over (prim n op es) f ρ o k h = (h.0, h.1, reads_over* es f ρ h.0 h.1 h.2, h.3, h.4)
    reads_over (call n g es) f ρ o k h = (
      h.0,
      h.1,
      h.2,
      h.3,
      reads_over* es (λ g v k vs p q. f g v k vs (p.0, inr p.1) q) ρ h.0 h.2 h.4,
      f g h.1 h.3 h.0 (n, inl (refl, refl)) h.5,
      h.6,
      h.7,
    )
    reads_over (self n es) f ρ o k h = (h.0, h.1, reads_over* es f ρ h.0 h.1 h.2, h.3, h.4)
    reads_over (cond n a b c) f ρ o k h = (
      h.0,
      h.1,
      h.2,
      reads_over a (λ g v k vs p q. f g v k vs (p.0, inl p.1) q) ρ (val h.0) h.1 h.3,
      chosen_map (λ x. reads_over b (λ g v k vs p q. f g v k vs (p.0, inr (inl p.1)) q) ρ o h.2 x)
          (λ x. reads_over c (λ g v k vs p q. f g v k vs (p.0, inr (inr p.1)) q) ρ o h.2 x) h.0 h.0 refl h.4,
      h.5,
    )
    reads_over (bind n ds b) f ρ o k h = (
      h.0,
      h.1,
      h.2,
      reads_over* ds (λ g v k vs p q. f g v k vs (p.0, inl p.1) q) ρ h.0 h.1 h.3,
      reads_over b (λ g v k vs p q. f g v k vs (p.0, inr p.1) q) (extend ds h.0 ρ) o h.2 h.4,
      h.5,
    )
    reads_over (bound n d) f ρ o k h = h

    pub reads_over* : (es : Exprs) → Over (λ g. (c : ℕ) × CallIn* c g es) → (ρ : ℕ → ℕ) (vs : List ℕ) (j : ℕ)
        → Reads* apply K args es ρ vs j → Reads* apply K' args es ρ vs j
    reads_over* none f ρ vs j h = h
    reads_over* (some e es) f ρ vs j h = (
      h.0,
      h.1,
      h.2,
      h.3,
      reads_over e (λ g v k vs p q. f g v k vs (p.0, inl p.1) q) ρ (val h.0) h.2 h.4,
      reads_over* es (λ g v k vs p q. f g v k vs (p.0, inr p.1) q) ρ h.1 h.3 h.5,
      h.6,
      h.7,
    )

-- and of function f, over its self calls
module _ (units : Arithmetic) (body : ℕ → Expr) (K K' : Readings) (f : ℕ)
    (change : (g v k : ℕ) (vs : List ℕ) → ((c : ℕ) × CallIn c g (body f)) → K g vs v k → K' g vs v k) where
  -- its body, as it is read with these arguments
  abbrev Body : Readings → List ℕ → Outcome → ℕ → Type 0
  Body K vs o k = BodyReads (units.result f) (units.keep f) K (body f) vs o k

  pub body_over : (vs : List ℕ) (o : Outcome) (k : ℕ) → Body K vs o k → Body K' vs o k
  body_over vs o k = reads_over (units.result f) (kept_answers (units.keep f) K) (kept_answers (units.keep f) K')
      (λ z. get_or (map (units.keep f) vs) z 0) (body f) (λ g v k ws p q. (q.0, change g q.0 k ws p q.1, q.2)) (λ d. 0) o k

  pub round_over : (vs : List ℕ) (v k : ℕ) → Rounds units body K f vs v k → Rounds units body K' f vs v k
  round_over vs v k (stops x) = stops (body_over vs (val v) k x)
  round_over vs v k (goes ws j i x r q) = goes ws j i (body_over vs (again ws) j x) (round_over ws v i r) q

module _ (units : Arithmetic) (body : ℕ → Expr) where
  -- function suc f, at its own level
  abbrev Own : ℕ → List ℕ → ℕ → ℕ → Type 0
  Own f vs v k = Rounds units body (readings units body f) (suc f) vs v k

  -- which is enough, whatever the level it is asked at
  level_in : (t f v k : ℕ) (vs : List ℕ) → suc f ≤ t → Own f vs v k → readings units body t (suc f) vs v k
  level_in zero f v k vs h y = absurd (omega arith)
  level_in (suc t) f v k vs h y = go (ℕ_discrete (suc f) (suc t)) (λ p. level_in t f v k vs p y)
    where
      go : (d : Dec (suc f ≡ suc t)) → (suc f ≤ t → readings units body t (suc f) vs v k)
          → mixed d (Rounds units body (readings units body t) (suc f) vs v k) (readings units body t (suc f) vs v k)
      go (yes e) ih = let q : f ≡ t = omega (arith, e) in subst (λ z. Rounds units body (readings units body z) (suc f) vs v k) q y
      go (no e) ih = ih (omega (arith, h, e))

  level_out : (t f v k : ℕ) (vs : List ℕ) → suc f ≤ t → readings units body t (suc f) vs v k → Own f vs v k
  level_out zero f v k vs h y = absurd (omega arith)
  level_out (suc t) f v k vs h y = go (ℕ_discrete (suc f) (suc t)) (λ p z. level_out t f v k vs p z) y
    where
      go : (d : Dec (suc f ≡ suc t)) → (suc f ≤ t → readings units body t (suc f) vs v k → Own f vs v k)
          → mixed d (Rounds units body (readings units body t) (suc f) vs v k) (readings units body t (suc f) vs v k) → Own f vs v k
      go (yes e) ih y = let q : t ≡ f = omega (arith, e) in subst (λ z. Rounds units body (readings units body z) (suc f) vs v k) q y
      go (no e) ih y = ih (omega (arith, h, e)) y

  level_to : (t t' g v k : ℕ) (vs : List ℕ) → 1 ≤ g → g ≤ t → g ≤ t' → readings units body t g vs v k → readings units body t' g vs v k
  level_to t t' zero v k vs p q q' y = absurd (omega arith)
  level_to t t' (suc g) v k vs p q q' y = level_in t' g v k vs q' (level_out t g v k vs q y)

  -- what the circuit's proof asks of the readings
  pub closes : (F : ℕ) → Well F body → Closes units F body (readings units body F)
  closes F well zero v vs o j i r h e = absurd (omega (arith, r.0))
  closes F well (suc t) v vs o j i r h e = level_in F t v (j + i) vs r.1 (round o e here)
    where
      Here : Outcome → Type 0
      Here o = BodyReads (units.result (suc t)) (units.keep (suc t)) (readings units body t) (body (suc t)) vs o j

      here : Here o
      here = body_over units body (readings units body F) (readings units body t) (suc t)
          (λ g v k ws p q. let c = well.below (suc t) p.0 g r p.1 in
          level_to F t g v k ws c.0 (omega (arith, c.1, r.1)) (omega (arith, c.1)) q) vs o j h

      sums : i ≡ 0 → j ≡ j + i
      sums z = omega arith

      round : (o : Outcome) → Ends (readings units body F) (suc t) o v i → Here o → Own t vs v (j + i)
      round (val w) e z = subst (Own t vs v) (sums e.1) (stops (subst (λ n. Here (val n)) (sym e.0) z))
      round (again ws) e z = goes ws j i z (level_out F t v i ws r.1 e) refl

  -- under K each function's reading is its body's, with K's readings of its callees
  abbrev Fixed : ℕ → Readings → Type 0
  Fixed F K = (f : ℕ) → Fn F body f → (vs : List ℕ) (v k : ℕ) → K f vs v k ↔ Rounds units body K f vs v k

  -- the readings of all functions do that ..
  module _ (F : ℕ) (well : Well F body) where
    pub fixed : Fixed F (readings units body F)
    fixed zero r vs v k = absurd (omega (arith, r.0))
    fixed (suc t) r vs v k = (
      λ y. round_over units body (readings units body t) (readings units body F) (suc t)
          (λ g v k ws p q. let c = well.below (suc t) p.0 g r p.1 in
          level_to t F g v k ws c.0 (omega (arith, c.1)) (omega (arith, c.1, r.1)) q) vs v k (level_out F t v k vs r.1 y),
      λ y. level_in F t v k vs r.1 (round_over units body (readings units body F) (readings units body t) (suc t)
          (λ g v k ws p q. let c = well.below (suc t) p.0 g r p.1 in
          level_to F t g v k ws c.0 (omega (arith, c.1, r.1)) (omega (arith, c.1)) q) vs v k y),
    )

    -- .. and no other readings do
    module _ (K K' : Readings) (x : Fixed F K) (y : Fixed F K') where
      pub into : (m f : ℕ) → f ≤ m → Fn F body f → (vs : List ℕ) (v k : ℕ) → K f vs v k → K' f vs v k
      into zero f l r vs v k h = absurd (omega (arith, r.0))
      into (suc m) f l r vs v k h = (y f r vs v k).1 (round_over units body K K' f
          (λ g v k ws p q. let c = well.below f p.0 g r p.1 in
          into m g (omega (arith, c.1)) (c.0, omega (arith, c.1, r.1)) ws v k q) vs v k ((x f r vs v k).0 h))
