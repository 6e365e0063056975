-- a list of asked steps (document 01, "What the third demand speaks of"): the answers, the steps taken, entries and leavings
use Rattle.std.specs.Prelude.{ℕ, suc, ◌+◌, ◌/◌, Bool, false, List, [], ◌∷◌, eqb}
use Rattle.table.specs.Syntax.{Expr, const, param, prim, call, self, cond, bind, bound}
use Rattle.table.specs.Pick.{pick}
use Rattle.table.specs.Find.{total}
use Rattle.rules.specs.State.{State512}
use Rattle.rules.specs.Step.{Reply, taken, answered, denied, Stepped}

-- a step counts as taken unless it is refused
abbrev pub IsTaken : Reply → Type 0
IsTaken taken = Unit {0}
IsTaken (answered v) = Unit {0}
IsTaken (denied k p) = ⊥

abbrev pub noted : Reply → ℕ → List ℕ → List ℕ
noted taken n ns = n ∷ ns
noted (answered v) n ns = n ∷ ns
noted (denied k p) n ns = ns

-- a step asked at a number, under the tags that it is asked with
pub record Ask (T : Type 0) : Type 0 where
  pub tags : T
  pub node : ℕ

-- the same tags at every step
abbrev pub asks : {T : Type 0} → T → List ℕ → List (Ask T)
asks tags [] = []
asks tags (n ∷ ns) = record { tags = tags; node = n } ∷ asks tags ns

-- after a list of asked steps: the state, the answer of each, and the nodes of those that were taken, in the order of the list
pub record Log : Type 0 where
  pub state : State512
  pub answers : List Reply
  pub nodes : List ℕ

-- a step asked at n, and what was played after it
abbrev pub before : ℕ → Stepped → Log → Log
before n r l = record { state = l.state; answers = r.answer ∷ l.answers; nodes = noted r.answer n l.nodes }

abbrev pub played : {T : Type 0} → (T → State512 → ℕ → Stepped) → State512 → List (Ask T) → Log
played step s [] = record { state = s; answers = []; nodes = [] }
played step s (a ∷ rest) =
    let r : Stepped = step a.tags s a.node in
    before a.node r (played step r.state rest)

-- how many of the steps were taken at node c
unfoldable pub count : ℕ → List ℕ → ℕ
count c [] = 0
count c (n ∷ ns) = pick (eqb c n) (suc (count c ns)) (count c ns)

-- a call of f that is no self call
abbrev pub calls : Expr → ℕ → Bool
calls (const n v) f = false
calls (param n i) f = false
calls (prim n op es) f = false
calls (call n g es) f = eqb g f
calls (self n es) f = false
calls (cond n a b c) f = false
calls (bind n ds b) f = false
calls (bound n d) f = false

-- of k steps taken since the start at one call, no self call: ..
abbrev pub enterings : ℕ → ℕ
-- "the second, fifth and so on enter its callee"
enterings k = (k + 1) / 3

abbrev pub exits : ℕ → ℕ
-- "the third, sixth and so on leave it"
exits k = k / 3

module _ (N : ℕ) (at : ℕ → Expr) where
  -- all calls of f, nodes 1 to N
  abbrev pub entries : ℕ → List ℕ → ℕ
  entries f ns = total (λ c. pick (calls (at c) f) (enterings (count c ns)) 0) N

  abbrev pub leavings : ℕ → List ℕ → ℕ
  leavings f ns = total (λ c. pick (calls (at c) f) (exits (count c ns)) 0) N
