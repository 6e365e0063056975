-- the plain reading with its count (document 01, "The plain reading and its count"; what is kept of a value: document 02, Q-2): "a
-- definition and no entry"
use Rattle.std.specs.Prelude.{ℕ, zero, suc, ◌+◌, ◌≡◌, List, [], ◌∷◌, map, get_or}
use Rattle.std.proofs.Math.Decide.{ℕ_discrete}
use Rattle.table.specs.Syntax.{Expr, Exprs, const, param, prim, call, self, cond, bind, bound, none, some}
use Rattle.table.specs.Environment.{extend}
use Rattle.table.specs.Pick.{mixed}
use Rattle.table.specs.Bytes.{functions}
use Rattle.table.specs.Expressions.{body_of}
use Rattle.rules.specs.Arithmetic.{Arithmetic, arithmetic}

-- what an expression comes to: a value, or its function read anew with these arguments
pub data Outcome : Type 0 where
  val : ℕ → Outcome
  again : List ℕ → Outcome

-- an if or let counts 2, and 1 more unless its last part came to a self call
abbrev pub last : Outcome → ℕ
last (val v) = 1
last (again vs) = 0

-- by the value v of a condition: Y for 0, else X
abbrev pub Chosen : Type 0 → Type 0 → ℕ → Type 0
Chosen X Y zero = Y
Chosen X Y (suc v) = X

-- function g, read with these arguments, has this value and this count
abbrev pub Readings : Type 1
Readings = (g : ℕ) → List ℕ → (value count : ℕ) → Type 0

-- K tells the callees' answers and `args` the arguments, both as this function keeps them; ρ has the values of the definientia in scope
module _ (apply : ℕ → List ℕ → ℕ) (K : Readings) (args : ℕ → ℕ) where
  abbrev mutual
    pub Reads : Expr → (ℕ → ℕ) → Outcome → (count : ℕ) → Type 0
    -- "A constant, parameter or bound counts 1"
    Reads (const n v) ρ o k = (o ≡ val v) × (k ≡ 1)
    Reads (param n i) ρ o k = (o ≡ val (args i)) × (k ≡ 1)
    Reads (bound n d) ρ o k = (o ≡ val (ρ d)) × (k ≡ 1)
    -- "primitive 2 plus children"
    Reads (prim n op es) ρ o k = (vs : List ℕ) × (j : ℕ) × Reads* es ρ vs j × (o ≡ val (apply op vs)) × (k ≡ 2 + j)
    -- "call 3 plus arguments plus the callee's body"
    Reads (call n g es) ρ o k = (vs : List ℕ) × (v j i : ℕ) × Reads* es ρ vs j × K g vs v i × (o ≡ val v) × (k ≡ 3 + j + i)
    -- a self call: 2 and its arguments; the body again is counted in `Round`
    Reads (self n es) ρ o k = (vs : List ℕ) × (j : ℕ) × Reads* es ρ vs j × (o ≡ again vs) × (k ≡ 2 + j)
    -- "if and let 3 plus what was evaluated"
    Reads (cond n a b c) ρ o k = (v j i : ℕ) × Reads a ρ (val v) j × Chosen (Reads b ρ o i) (Reads c ρ o i) v × (k ≡ 2 + last o + j + i)
    Reads (bind n ds b) ρ o k = (vs : List ℕ) × (j i : ℕ) × Reads* ds ρ vs j × Reads b (extend ds vs ρ) o i × (k ≡ 2 + last o + j + i)

    -- children, definientia, arguments: "Arguments by value"
    pub Reads* : Exprs → (ℕ → ℕ) → List ℕ → (count : ℕ) → Type 0
    Reads* none ρ vs j = (vs ≡ []) × (j ≡ 0)
    Reads* (some e es) ρ vs j = (v : ℕ) × (ws : List ℕ) × (i i' : ℕ) × Reads e ρ (val v) i × Reads* es ρ ws i' × (vs ≡ v ∷ ws)
        × (j ≡ i + i')

-- the callees as a caller gets them: of the answer u it keeps v
abbrev pub kept_answers : (keep : ℕ → ℕ) → Readings → Readings
kept_answers keep K g vs v k = (u : ℕ) × K g vs u k × (v ≡ keep u)

-- body e read with the arguments vs: each of them is kept first, and so is each callee's answer
abbrev pub BodyReads : (apply : ℕ → List ℕ → ℕ) (keep : ℕ → ℕ) → Readings → Expr → List ℕ → Outcome → (count : ℕ) → Type 0
BodyReads apply keep K e vs o k = Reads apply (kept_answers keep K) (λ x. get_or (map keep vs) x 0) e (λ d. 0) o k

-- body e, read again with the arguments of each self call until it comes to a value
pub data Round (apply : ℕ → List ℕ → ℕ) (keep : ℕ → ℕ) (K : Readings) (e : Expr) : List ℕ → ℕ → ℕ → Type 0 where
  stops : {vs : List ℕ} {v k : ℕ} → BodyReads apply keep K e vs (val v) k → Round apply keep K e vs v k
  goes : {vs : List ℕ} {v k : ℕ} (ws : List ℕ) (j i : ℕ) → BodyReads apply keep K e vs (again ws) j → Round apply keep K e ws v i
      → k ≡ j + i → Round apply keep K e vs v k

-- function f by its body, with what K says of its callees
abbrev pub Rounds : (units : Arithmetic) (body : ℕ → Expr) → Readings → Readings
Rounds units body K f vs v k = Round (units.result f) (units.keep f) K (body f) vs v k

module _ (units : Arithmetic) (body : ℕ → Expr) where
  -- the readings of the functions 1 to t, each by its body and those of its callees, which are lower
  abbrev pub readings : ℕ → Readings
  readings zero g vs v k = ⊥
  readings (suc t) g vs v k = mixed (ℕ_discrete g (suc t)) (Rounds units body (readings t) g vs v k) (readings t g vs v k)

-- of a table: the readings of all its functions
abbrev pub readings_of : (t : List ℕ) → Readings
readings_of t = readings (arithmetic t) (body_of t) (functions t)

-- main, read with the arguments of a start, as they were given, and without the circuit, ends with value v, counting k
abbrev pub ReadsTo : (t args : List ℕ) → (v k : ℕ) → Type 0
ReadsTo t args v k = readings_of t (functions t) args v k
