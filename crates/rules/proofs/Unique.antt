-- the reading is unique: one value and one count
use Prim.Native.Nat.{ℕ, zero, suc}
use mathlib.Core.Path.{◌≡◌, subst, sym, ap, ◌∙◌}
use mathlib.Core.List.{List, ◌∷◌, map}
use native.Mathlib.Omega.{arith}
use native.Mathlib.Decide.{ℕ_discrete}
use lib.ListN.{get_or}
use Rattle.table.specs.Syntax.{Expr, Exprs, const, param, prim, call, self, cond, bind, bound, none, some}
use Rattle.rules.proofs.Branches.{chosen_case, chosen_both}
use Rattle.rules.specs.Reading.{Outcome, val, again, last, Readings, Reads, Reads*, kept_answers, BodyReads, Round, stops, goes}
use Rattle.rules.specs.Reading.{Rounds}
use Rattle.rules.specs.Arithmetic.{Arithmetic}
use Rattle.table.specs.Environment.{extend}
use Rattle.table.specs.Pick.{mixed}
use Rattle.rules.specs.Reading as Reading

abbrev pub Unique : Readings → Type 0
Unique K = (g : ℕ) (vs : List ℕ) (v w k l : ℕ) → K g vs v k → K g vs w l → (v ≡ w) × (k ≡ l)

val_of : Outcome → ℕ
val_of (val v) = v
val_of (again vs) = 0

val_inj : (v w : ℕ) → val v ≡ val w → v ≡ w
unfolding val_of
val_inj v w p = ap val_of p

val≢again : (v : ℕ) (vs : List ℕ) → val v ≡ again vs → ⊥
val≢again v vs p = let z : ◌≡◌ {A = ℕ} 0 1 = cc in omega arith

again_inj : (vs ws : List ℕ) → again vs ≡ again ws → vs ≡ ws
again_inj vs ws p = cc

module _ (apply : ℕ → List ℕ → ℕ) (K : Readings) (unique : Unique K) (args : ℕ → ℕ) where
  mutual
    pub reads_unique : (e : Expr) (ρ : ℕ → ℕ) (o q : Outcome) (k l : ℕ) → Reads apply K args e ρ o k → Reads apply K args e ρ q l
        → (o ≡ q) × (k ≡ l)
    reads_unique (const n v) ρ o q k l x y = (x.0 ∙ sym y.0, omega arith)
    reads_unique (param n i) ρ o q k l x y = (x.0 ∙ sym y.0, omega arith)
    reads_unique (prim n op es) ρ o q k l x y =
        let a = reads_unique* es ρ x.0 y.0 x.1 y.1 x.2 y.2 in
        (x.3 ∙ ap (λ vs. val (apply op vs)) a.0 ∙ sym y.3, omega (arith, x.4, y.4, a.1))
    reads_unique (call n g es) ρ o q k l x y =
        let a = reads_unique* es ρ x.0 y.0 x.2 y.2 x.4 y.4 in
        let b = unique g x.0 x.1 y.1 x.3 y.3 x.5 (subst (λ vs. K g vs y.1 y.3) (sym a.0) y.5) in
        (x.6 ∙ ap val b.0 ∙ sym y.6, omega (arith, x.7, y.7, a.1, b.1))
    reads_unique (self n es) ρ o q k l x y =
        let a = reads_unique* es ρ x.0 y.0 x.1 y.1 x.2 y.2 in
        (x.3 ∙ ap again a.0 ∙ sym y.3, omega (arith, x.4, y.4, a.1))
    reads_unique (cond n a b c) ρ o q k l x y =
        let t = reads_unique a ρ (val x.0) (val y.0) x.1 y.1 x.3 y.3 in
        let e = val_inj x.0 y.0 t.0 in
        let r = chosen_case (λ r. r) (λ r. r) x.0 (chosen_both (λ u w. reads_unique b ρ o q x.2 y.2 u w)
        (λ u w. reads_unique c ρ o q x.2 y.2 u w) x.0 y.0 (sym e) x.4 y.4) in
        (r.0, omega (arith, x.5, y.5, t.1, r.1, ap last r.0))
    reads_unique (bind n ds b) ρ o q k l x y =
        let a = reads_unique* ds ρ x.0 y.0 x.1 y.1 x.3 y.3 in
        let r = reads_unique b (extend ds x.0 ρ) o q x.2 y.2 x.4 (subst (λ vs. Reads apply K args b (extend ds vs ρ) q y.2)
        (sym a.0) y.4) in
        (r.0, omega (arith, x.5, y.5, a.1, r.1, ap last r.0))
    reads_unique (bound n d) ρ o q k l x y = (x.0 ∙ sym y.0, omega arith)

    pub reads_unique* : (es : Exprs) (ρ : ℕ → ℕ) (vs ws : List ℕ) (j i : ℕ) → Reads* apply K args es ρ vs j → Reads* apply K args es ρ ws i
        → (vs ≡ ws) × (j ≡ i)
    reads_unique* none ρ vs ws j i x y = (x.0 ∙ sym y.0, omega arith)
    reads_unique* (some e es) ρ vs ws j i x y =
        let a = reads_unique e ρ (val x.0) (val y.0) x.2 y.2 x.4 y.4 in
        let b = reads_unique* es ρ x.1 y.1 x.3 y.3 x.5 y.5 in
        (x.6 ∙ (λ z. val_inj x.0 y.0 a.0 z ∷ b.0 z) ∙ sym y.6, omega (arith, x.7, y.7, a.1, b.1))

kept_unique : (keep : ℕ → ℕ) (K : Readings) → Unique K → Unique (kept_answers keep K)
kept_unique keep K unique g vs v w k l x y =
    let a = unique g vs x.0 y.0 k l x.1 y.1 in (x.2 ∙ ap keep a.0 ∙ sym y.2, a.1)

module _ (apply : ℕ → List ℕ → ℕ) (keep : ℕ → ℕ) (K : Readings) (unique : Unique K) (e : Expr) where
  same : (vs : List ℕ) (o q : Outcome) (k l : ℕ) → BodyReads apply keep K e vs o k → BodyReads apply keep K e vs q l → (o ≡ q) × (k ≡ l)
  same vs o q k l x y =
      reads_unique apply (kept_answers keep K) (kept_unique keep K unique) (λ z. get_or (map keep vs) z 0) e (λ d. 0) o q k l x y

  pub round_unique : (vs : List ℕ) (v w k l : ℕ) → Round apply keep K e vs v k → Round apply keep K e vs w l → (v ≡ w) × (k ≡ l)
  round_unique vs v w k l (stops x) (stops y) = let a = same vs (val v) (val w) k l x y in (val_inj v w a.0, a.1)
  round_unique vs v w k l (stops x) (goes ws j i y r q) = absurd (val≢again v ws (same vs (val v) (again ws) k j x y).0)
  round_unique vs v w k l (goes ws j i x r q) (stops y) = absurd (val≢again w ws (sym (same vs (again ws) (val w) j l x y).0))
  round_unique vs v w k l (goes ws j i x r q) (goes us m n y t u) =
      let a = same vs (again ws) (again us) j m x y in
      let b = round_unique ws v w i n r (subst (λ z. Round apply keep K e z w n) (sym (again_inj ws us a.0)) t) in
      (b.0, omega (arith, q, u, a.1, b.1))

module _ (units : Arithmetic) (body : ℕ → Expr) where
  abbrev readings : ℕ → Readings
  readings = Reading.readings units body

  pub readings_unique : (t : ℕ) → Unique (readings t)
  readings_unique zero g vs v w k l x y = absurd x
  readings_unique (suc t) g vs v w k l x y = go (ℕ_discrete g (suc t)) (readings_unique t) x y
    where
      go : (d : Dec (g ≡ suc t)) → Unique (readings t) → mixed d (Rounds units body (readings t) g vs v k) (readings t g vs v k)
          → mixed d (Rounds units body (readings t) g vs w l) (readings t g vs w l) → (v ≡ w) × (k ≡ l)
      go (yes e) f x y = round_unique (units.result g) (units.keep g) (readings t) f (body g) vs v w k l x y
      go (no e) f x y = f g vs v w k l x y
