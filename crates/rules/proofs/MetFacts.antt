-- if all that primitives, kept arguments and kept answers bring passes P, so does every value that a reading meets
use Prim.Native.Nat.{ℕ, zero, suc}
use mathlib.Core.Bool.{Bool, true, false}
use mathlib.Core.Path.{◌≡◌, refl, subst, sym}
use mathlib.Core.Logic.{inl, inr}
use mathlib.Core.List.{List, [], ◌∷◌, map}
use lib.Dec.{eqb}
use lib.ListN.{get_or}
use Rattle.table.specs.Syntax.{Expr, Exprs, const, param, prim, call, self, cond, bind, bound, none, some, id, Sub, Sub*}
use Rattle.table.specs.Environment.{extend}
use Rattle.table.specs.Pick.{pick}
use Rattle.rules.specs.Reading.{Outcome, val, again, Chosen, Readings, Reads, Reads*, kept_answers, BodyReads, Round, stops, goes}
use Rattle.rules.specs.Met.{of_chosen, Sayings, Comes, Met, Met*, Heard, MetBody, MetRound}

-- each value of a list
abbrev All : (ℕ → Type 0) → List ℕ → Type 0
All P vs = (i : ℕ) → P (get_or vs i 0)

module _ (P : ℕ → Type 0) where
  extend_all : (ds : Exprs) (vs : List ℕ) (ρ : ℕ → ℕ) → All P vs → ((d : ℕ) → P (ρ d)) → (d : ℕ) → P (extend ds vs ρ d)
  extend_all none vs ρ w p d = p d
  extend_all (some e ds) [] ρ w p d = p d
  extend_all (some e ds) (v ∷ vs) ρ w p d = go (eqb (id e) d) (extend_all ds vs ρ (λ i. w (suc i)) p d)
    where
      go : (b : Bool) → P (extend ds vs ρ d) → P (pick b v (extend ds vs ρ d))
      go true x = w 0
      go false x = x

  cons_all : (v : ℕ) (vs : List ℕ) → P v → All P vs → All P (v ∷ vs)
  cons_all v vs p w zero = p
  cons_all v vs p w (suc i) = w i

  pub map_all : P 0 → (keep : ℕ → ℕ) → ((v : ℕ) → P (keep v)) → (vs : List ℕ) → All P (map keep vs)
  map_all z keep k [] i = z
  map_all z keep k (v ∷ vs) zero = k v
  map_all z keep k (v ∷ vs) (suc i) = map_all z keep k vs i

-- of the branch that was taken
chosen : (X Y : Type 0) (A : X → Type 0) (B : Y → Type 0) (C : Type 0) (v : ℕ) (t : Chosen X Y v) → ((x : X) → A x × C)
    → ((y : Y) → B y × C) → of_chosen X Y v A B t × C
chosen X Y A B C zero t f g = g t
chosen X Y A B C (suc v) t f g = f t

module _ (P : ℕ → Type 0) (apply : ℕ → List ℕ → ℕ) (operated : (op : ℕ) (vs : List ℕ) → P (apply op vs)) (K : Readings) (Q : Sayings K)
    (callees : (g : ℕ) (vs : List ℕ) (v k : ℕ) (h : K g vs v k) → Q g vs v k h × P v) (args : ℕ → ℕ) (given : (i : ℕ) → P (args i))
    (zero_passes : P 0) where
  -- the constants pass
  abbrev Consts : Expr → Type 0
  Consts e = (m v : ℕ) → Sub (const m v) e → P v

  abbrev Consts* : Exprs → Type 0
  Consts* es = (m v : ℕ) → Sub* (const m v) es → P v

  comes : (v : ℕ) (o : Outcome) → o ≡ val v → P v → Comes P o
  comes v o e p = subst (Comes P) (sym e) p

  mutual
    reads_met : (e : Expr) → Consts e → (ρ : ℕ → ℕ) → ((d : ℕ) → P (ρ d)) → (o : Outcome) (k : ℕ) (h : Reads apply K args e ρ o k)
        → Met P apply K Q args e ρ o k h × Comes P o
    reads_met (const n v) c ρ p o k h = (c n v refl, comes v o h.0 (c n v refl))
    reads_met (param n i) c ρ p o k h = (given i, comes (args i) o h.0 (given i))
    reads_met (bound n d) c ρ p o k h = (p d, comes (ρ d) o h.0 (p d))
    reads_met (prim n op es) c ρ p o k h =
        let x = reads_met* es (λ m v s. c m v (inr s)) ρ p h.0 h.1 h.2 in
        let r = operated op h.0 in
        ((x.0, r), comes (apply op h.0) o h.3 r)
    reads_met (call n g es) c ρ p o k h =
        let x = reads_met* es (λ m v s. c m v (inr s)) ρ p h.0 h.2 h.4 in
        let r = callees g h.0 h.1 h.3 h.5 in
        ((x.0, r.0, r.1), comes h.1 o h.6 r.1)
    reads_met (self n es) c ρ p o k h =
        let x = reads_met* es (λ m v s. c m v (inr s)) ρ p h.0 h.1 h.2 in
        (x.0, subst (Comes P) (sym h.3) tt)
    reads_met (cond n a b d) c ρ p o k h =
        let x = reads_met a (λ m v s. c m v (inr (inl s))) ρ p (val h.0) h.1 h.3 in
        let y = chosen (Reads apply K args b ρ o h.2) (Reads apply K args d ρ o h.2) (λ r. Met P apply K Q args b ρ o h.2 r)
        (λ r. Met P apply K Q args d ρ o h.2 r) (Comes P o) h.0 h.4
        (λ r. reads_met b (λ m v s. c m v (inr (inr (inl s)))) ρ p o h.2 r)
        (λ r. reads_met d (λ m v s. c m v (inr (inr (inr s)))) ρ p o h.2 r) in
        ((x.0, y.0, y.1), y.1)
    reads_met (bind n ds b) c ρ p o k h =
        let x = reads_met* ds (λ m v s. c m v (inr (inl s))) ρ p h.0 h.1 h.3 in
        let y = reads_met b (λ m v s. c m v (inr (inr s))) (extend ds h.0 ρ) (extend_all P ds h.0 ρ x.1 p) o h.2 h.4 in
        ((x.0, y.0, y.1), y.1)

    reads_met* : (es : Exprs) → Consts* es → (ρ : ℕ → ℕ) → ((d : ℕ) → P (ρ d)) → (vs : List ℕ) (j : ℕ) (h : Reads* apply K args es ρ vs j)
        → Met* P apply K Q args es ρ vs j h × ((i : ℕ) → P (get_or vs i 0))
    reads_met* none c ρ p vs j h = (tt, λ i. subst (λ l. P (get_or l i 0)) (sym h.0) zero_passes)
    reads_met* (some e es) c ρ p vs j h =
        let x = reads_met e (λ m v s. c m v (inl s)) ρ p (val h.0) h.2 h.4 in
        let y = reads_met* es (λ m v s. c m v (inr s)) ρ p h.1 h.3 h.5 in
        ((x.0, y.0), λ i. subst (λ l. P (get_or l i 0)) (sym h.6) (cons_all P h.0 h.1 x.1 y.1 i))

-- a body read again and again, with kept arguments
module _ (P : ℕ → Type 0) (zero_passes : P 0) (apply : ℕ → List ℕ → ℕ) (operated : (op : ℕ) (vs : List ℕ) → P (apply op vs))
    (keep : ℕ → ℕ) (kept : (v : ℕ) → P (keep v)) (K : Readings) (Q : Sayings K)
    (callees : (g : ℕ) (vs : List ℕ) (u k : ℕ) (h : K g vs u k) → Q g vs u k h) (e : Expr)
    (consts : (m v : ℕ) → Sub (const m v) e → P v) where
  body_met : (vs : List ℕ) (o : Outcome) (k : ℕ) (h : BodyReads apply keep K e vs o k) → MetBody P apply keep K Q e vs o k h × Comes P o
  body_met vs o k h =
      let x = reads_met P apply operated (kept_answers keep K) (Heard P apply keep K Q)
      (λ g ws v k a. (callees g ws a.0 k a.1, subst P (sym a.2) (kept a.0))) (λ x. get_or (map keep vs) x 0)
      (map_all P zero_passes keep kept vs) zero_passes e consts (λ d. 0) (λ d. zero_passes) o k h in
      ((map_all P zero_passes keep kept vs, x.0), x.1)

  pub round_met : (vs : List ℕ) (v k : ℕ) (r : Round apply keep K e vs v k) → MetRound P apply keep K Q e vs v k r × P v
  round_met vs v k (stops r) = let x = body_met vs (val v) k r in ((x.0, x.1), x.1)
  round_met vs v k (goes ws j i r more q) =
      let x = body_met vs (again ws) j r in
      let y = round_met ws v i more in
      ((x.0, y.0), y.1)
