-- the values that a reading meets (document 02, Q-2), over its whole derivation: what passes P in the function, and what is said of its
-- callees' readings
use Rattle.std.specs.Prelude.{ℕ, zero, suc, List, map, get_or}
use Rattle.std.proofs.Math.Decide.{ℕ_discrete}
use Rattle.table.specs.Syntax.{Expr, Exprs, const, param, prim, call, self, cond, bind, bound, none, some}
use Rattle.table.specs.Environment.{extend}
use Rattle.table.specs.Pick.{mixed}
use Rattle.table.specs.Well.{Below}
use Rattle.rules.specs.Arithmetic.{Arithmetic}
use Rattle.rules.specs.Reading.{Outcome, val, again, Chosen, Readings, Reads, Reads*, kept_answers, BodyReads, Round, stops, goes}
use Rattle.rules.specs.Reading.{Rounds, readings}

-- what is said of the branch that was taken
abbrev pub of_chosen {ℓ} : (X Y : Type 0) (v : ℕ) → (X → Type ℓ) → (Y → Type ℓ) → Chosen X Y v → Type ℓ
of_chosen X Y zero p q h = q h
of_chosen X Y (suc v) p q h = p h

-- what is said of a reading of a callee
abbrev pub Sayings : Readings → Type 1
Sayings K = (g : ℕ) (vs : List ℕ) (v k : ℕ) → K g vs v k → Type 0

-- the value that an expression comes to; a self call comes to none
abbrev pub Comes : (ℕ → Type 0) → Outcome → Type 0
Comes P (val v) = P v
Comes P (again vs) = Unit {0}

-- every value met passes P, each expression's own among them, and Q is said of each callee's reading
module _ (P : ℕ → Type 0) (apply : ℕ → List ℕ → ℕ) (K : Readings) (Q : Sayings K) (args : ℕ → ℕ) where
  abbrev mutual
    pub Met : (e : Expr) (ρ : ℕ → ℕ) (o : Outcome) (k : ℕ) → Reads apply K args e ρ o k → Type 0
    Met (const n v) ρ o k h = P v
    Met (param n i) ρ o k h = P (args i)
    Met (bound n d) ρ o k h = P (ρ d)
    -- a primitive's children and its result
    Met (prim n op es) ρ o k h = Met* es ρ h.0 h.1 h.2 × P (apply op h.0)
    -- a call's arguments, the callee's reading, and the answer as it is taken
    Met (call n g es) ρ o k h = Met* es ρ h.0 h.2 h.4 × Q g h.0 h.1 h.3 h.5 × P h.1
    Met (self n es) ρ o k h = Met* es ρ h.0 h.1 h.2
    -- an if's condition and the branch taken; a let's definientia and its body; the value of either
    Met (cond n a b c) ρ o k h =
        Met a ρ (val h.0) h.1 h.3
        × of_chosen (Reads apply K args b ρ o h.2) (Reads apply K args c ρ o h.2) h.0
        (λ x. Met b ρ o h.2 x) (λ x. Met c ρ o h.2 x) h.4 × Comes P o
    Met (bind n ds b) ρ o k h = Met* ds ρ h.0 h.1 h.3 × Met b (extend ds h.0 ρ) o h.2 h.4 × Comes P o

    pub Met* : (es : Exprs) (ρ : ℕ → ℕ) (vs : List ℕ) (j : ℕ) → Reads* apply K args es ρ vs j → Type 0
    Met* none ρ vs j h = Unit {0}
    Met* (some e es) ρ vs j h = Met e ρ (val h.0) h.2 h.4 × Met* es ρ h.1 h.3 h.5

module _ (P : ℕ → Type 0) (apply : ℕ → List ℕ → ℕ) (keep : ℕ → ℕ) (K : Readings) (Q : Sayings K) where
  -- what is said of a callee's reading, whatever the caller keeps of its answer
  abbrev pub Heard : Sayings (kept_answers keep K)
  Heard g vs v k h = Q g vs h.0 k h.1

  -- the arguments as they are kept, and a body read with them
  abbrev pub MetBody : (e : Expr) (vs : List ℕ) (o : Outcome) (k : ℕ) → BodyReads apply keep K e vs o k → Type 0
  MetBody e vs o k h = ((i : ℕ) → P (get_or (map keep vs) i 0))
      × Met P apply (kept_answers keep K) Heard (λ x. get_or (map keep vs) x 0) e (λ d. 0) o k h

  -- a body read again and again, up to its value
  abbrev pub MetRound : (e : Expr) (vs : List ℕ) (v k : ℕ) → Round apply keep K e vs v k → Type 0
  MetRound e vs v k (stops r) = MetBody e vs (val v) k r × P v
  MetRound e vs v k (goes ws j i r more q) = MetBody e vs (again ws) j r × MetRound e ws v i more

abbrev pub of_mixed {ℓ} : {A : Type 0} (X Y : Type 0) (d : Dec A) → (X → Type ℓ) → (Y → Type ℓ) → mixed d X Y → Type ℓ
of_mixed X Y (yes e) p q h = p h
of_mixed X Y (no e) p q h = q h

module _ (bits_of : ℕ → ℕ) (units : Arithmetic) (body : ℕ → Expr) where
  -- what is met in function f is below 2^w, w being its bits
  abbrev pub MetIn : (K : Readings) → Sayings K → Sayings (Rounds units body K)
  MetIn K Q f vs v k r = MetRound (Below (bits_of f)) (units.result f) (units.keep f) K Q (body f) vs v k r

  -- and so in every function that a whole reading comes to, by that function's own bits
  abbrev pub MetBelow : (t : ℕ) → Sayings (readings units body t)
  MetBelow zero g vs v k h = Unit {0}
  MetBelow (suc t) g vs v k h = of_mixed (Rounds units body (readings units body t) g vs v k) (readings units body t g vs v k)
      (ℕ_discrete g (suc t)) (λ r. MetIn (readings units body t) (MetBelow t) g vs v k r) (λ r. MetBelow t g vs v k r) h
