-- the abstract syntax of a table: the expression at a node, and the expressions along a chain of siblings
use Rattle.std.specs.Prelude.{ℕ, zero, suc, List, eqb}
use Rattle.table.specs.Pick.{pick}
use Rattle.table.specs.Syntax.{Expr, Exprs, const, param, prim, call, self, cond, bind, bound, none, some}
use Rattle.table.specs.Bytes.{nodes, root, kind, extra, word, first, next}
use Rattle.table.specs.Naming.{owner}

-- a let's children: the last is the body, the rest are definientia
abbrev pub last_of : Expr → Exprs → Expr
last_of e none = e
last_of e (some x es) = last_of x es

abbrev pub rest_of : Expr → Exprs → Exprs
rest_of e none = none
rest_of e (some x es) = some e (rest_of x es)

-- no accepted table has another number of children: then a constant stands here
unfoldable pub cond_of : ℕ → Exprs → Expr
cond_of n none = const n 0
cond_of n (some a none) = const n 0
cond_of n (some a (some b none)) = const n 0
cond_of n (some a (some b (some c es))) = cond n a b c

unfoldable pub bind_of : ℕ → Exprs → Expr
bind_of n none = const n 0
bind_of n (some e es) = bind n (rest_of e es) (last_of e es)

-- node n over its children
unfoldable pub node_of : List ℕ → ℕ → Exprs → Expr
node_of t n es =
    pick (eqb (kind t n) 1) (const n (word t n))
    (pick (eqb (kind t n) 2) (param n (extra t n))
    (pick (eqb (kind t n) 3) (prim n (extra t n) es)
    (pick (eqb (kind t n) 4) (pick (eqb (word t n) (owner t n)) (self n es) (call n (word t n) es))
    (pick (eqb (kind t n) 5) (cond_of n es)
    (pick (eqb (kind t n) 6) (bind_of n es)
    (bound n (word t n)))))))

-- links go up, so the number of nodes is fuel enough
unfoldable pub exprs_by : List ℕ → ℕ → ℕ → Exprs
exprs_by t zero c = none
exprs_by t (suc k) zero = none
exprs_by t (suc k) (suc c) = some (node_of t (suc c) (exprs_by t k (first t (suc c)))) (exprs_by t k (next t (suc c)))

unfoldable pub exprs_at : List ℕ → ℕ → Exprs
exprs_at t c = exprs_by t (nodes t) c

unfoldable pub expr_at : List ℕ → ℕ → Expr
expr_at t n = node_of t n (exprs_at t (first t n))

unfoldable pub body_of : List ℕ → ℕ → Expr
body_of t f = expr_at t (root t f)

-- the definientia and the body of a let whose first child is c
unfoldable pub defs_at : List ℕ → ℕ → Exprs
defs_at t c = rest_of (expr_at t c) (exprs_at t (next t c))

unfoldable pub final_at : List ℕ → ℕ → Expr
final_at t c = last_of (expr_at t c) (exprs_at t (next t c))

-- the branches of an if, whose condition is its first child
abbrev pub then_at : List ℕ → ℕ → ℕ
then_at t n = next t (first t n)

abbrev pub else_at : List ℕ → ℕ → ℕ
else_at t n = next t (next t (first t n))
