-- what a node is part of: a node is named once, by a root or by the first or next of a lower node, and all is read back along that naming
use Rattle.std.specs.Prelude.{ℕ, zero, suc, ◌+◌, Bool, true, false, ◌&&◌, ◌||◌, not, List, [], ◌∷◌, eqb, ltb}
use Rattle.table.specs.Pick.{pick}
use Rattle.table.specs.Bytes.{functions, nodes, root, kind, first, next}
use Rattle.table.specs.Find.{one, total, highest, back}

-- how often n stands among all roots, firsts and nexts
unfoldable pub mentions : List ℕ → ℕ → ℕ
mentions t n = total (λ f. one (eqb (root t f) n)) (functions t) + total (λ m. one (eqb (first t m) n) + one (eqb (next t m) n)) (nodes t)

-- the function whose root is n, 0 if none
unfoldable pub root_of : List ℕ → ℕ → ℕ
root_of t n = highest (λ f. eqb (root t f) n) (functions t)

-- m is lower than n, and n is its first or next
unfoldable pub names : List ℕ → ℕ → ℕ → Bool
names t m n = ltb m n && (eqb (first t m) n || eqb (next t m) n)

-- the node that names n, 0 if none
unfoldable pub namer : List ℕ → ℕ → ℕ
namer t n = highest (λ m. names t m n) (nodes t)

-- a node's function: at a root the function, else the namer's
unfoldable pub owner : List ℕ → ℕ → ℕ
owner t n = back (namer t) (λ n r. pick (eqb (namer t n) 0) (root_of t n) r) 0 n

-- a node's parent, 0 for a root: the namer if n is its first, else the namer's parent
unfoldable pub parent : List ℕ → ℕ → ℕ
parent t n = back (namer t) (λ n r. pick (eqb (namer t n) 0) 0 (pick (eqb (first t (namer t n)) n) (namer t n) r)) 0 n

-- a child that is in tail position if its parent p is: a branch of an if, the body of a let
unfoldable pub tail_child : List ℕ → ℕ → ℕ → Bool
tail_child t p n = (eqb (kind t p) 5 && not (eqb (first t p) n)) || (eqb (kind t p) 6 && eqb (next t n) 0)

-- tail position: a root, or such a child of a node in tail position
unfoldable pub tail : List ℕ → ℕ → Bool
tail t n = back (parent t) (λ n r. pick (eqb (parent t n) 0) true (tail_child t (parent t n) n && r)) true n

-- n or a node above it is the last child of p
unfoldable pub under_last : List ℕ → ℕ → ℕ → Bool
under_last t p n = back (parent t) (λ n r. (eqb (parent t n) p && eqb (next t n) 0) || r) false n

-- d is a definiens: a child of a let, and not the last one
unfoldable pub definiens : List ℕ → ℕ → Bool
definiens t d = not (eqb (parent t d) 0) && eqb (kind t (parent t d)) 6 && not (eqb (next t d) 0)

-- d is a definiens of a let whose body is or contains n
unfoldable pub in_scope : List ℕ → ℕ → ℕ → Bool
in_scope t d n = definiens t d && under_last t (parent t d) n

-- a node, the next one, and so on
unfoldable pub chain_by : List ℕ → ℕ → ℕ → List ℕ
chain_by t zero c = []
chain_by t (suc k) zero = []
chain_by t (suc k) (suc c) = suc c ∷ chain_by t k (next t (suc c))

unfoldable pub chain : List ℕ → ℕ → List ℕ
chain t c = chain_by t (nodes t) c

unfoldable pub children : List ℕ → ℕ → List ℕ
children t n = chain t (first t n)

-- all but the last: of a let's children the definientia
unfoldable pub initial : List ℕ → List ℕ
initial [] = []
initial (n ∷ []) = []
initial (n ∷ (m ∷ ms)) = n ∷ initial (m ∷ ms)
