-- SAFL expressions (Sharp and Mycroft, section 3); n is the node's number, the label α of the paper
use Rattle.std.specs.Prelude.{ℕ, suc, ◌≡◌, ◌⊎◌, List, [], ◌∷◌}

mutual
  pub data Expr : Type 0 where
    const : (n v : ℕ) → Expr
    param : (n i : ℕ) → Expr
    prim : (n op : ℕ) → Exprs → Expr
    call : (n g : ℕ) → Exprs → Expr
    self : (n : ℕ) → Exprs → Expr
    cond : (n : ℕ) → Expr → Expr → Expr → Expr
    bind : (n : ℕ) → Exprs → Expr → Expr
    bound : (n d : ℕ) → Expr

  pub data Exprs : Type 0 where
    none : Exprs
    some : Expr → Exprs → Exprs

-- a node's number
abbrev pub id : Expr → ℕ
id (const n v) = n
id (param n i) = n
id (prim n op es) = n
id (call n g es) = n
id (self n es) = n
id (cond n a b c) = n
id (bind n ds b) = n
id (bound n d) = n

-- every node of the expression passes
abbrev mutual
  pub Every : (ℕ → Type 0) → Expr → Type 0
  Every P (const n v) = P n
  Every P (param n i) = P n
  Every P (prim n op es) = P n × Every* P es
  Every P (call n g es) = P n × Every* P es
  Every P (self n es) = P n × Every* P es
  Every P (cond n a b c) = P n × Every P a × Every P b × Every P c
  Every P (bind n ds b) = P n × Every* P ds × Every P b
  Every P (bound n d) = P n

  pub Every* : (ℕ → Type 0) → Exprs → Type 0
  Every* P none = Unit {0}
  Every* P (some e es) = Every P e × Every* P es

-- m is the number of e or of a node below it
abbrev mutual
  pub Node : ℕ → Expr → Type 0
  Node m (const n v) = m ≡ n
  Node m (param n i) = m ≡ n
  Node m (prim n op es) = (m ≡ n) ⊎ Node* m es
  Node m (call n g es) = (m ≡ n) ⊎ Node* m es
  Node m (self n es) = (m ≡ n) ⊎ Node* m es
  Node m (cond n a b c) = (m ≡ n) ⊎ Node m a ⊎ Node m b ⊎ Node m c
  Node m (bind n ds b) = (m ≡ n) ⊎ Node* m ds ⊎ Node m b
  Node m (bound n d) = m ≡ n

  pub Node* : ℕ → Exprs → Type 0
  Node* m none = ⊥
  Node* m (some e es) = Node m e ⊎ Node* m es

-- u is e or stands below it
abbrev mutual
  pub Sub : Expr → Expr → Type 0
  Sub u (const n v) = u ≡ const n v
  Sub u (param n i) = u ≡ param n i
  Sub u (prim n op es) = (u ≡ prim n op es) ⊎ Sub* u es
  Sub u (call n g es) = (u ≡ call n g es) ⊎ Sub* u es
  Sub u (self n es) = (u ≡ self n es) ⊎ Sub* u es
  Sub u (cond n a b c) = (u ≡ cond n a b c) ⊎ Sub u a ⊎ Sub u b ⊎ Sub u c
  Sub u (bind n ds b) = (u ≡ bind n ds b) ⊎ Sub* u ds ⊎ Sub u b
  Sub u (bound n d) = u ≡ bound n d

  pub Sub* : Expr → Exprs → Type 0
  Sub* u none = ⊥
  Sub* u (some e es) = Sub u e ⊎ Sub* u es

-- the numbers of the expressions of a chain
abbrev pub roots : Exprs → List ℕ
roots none = []
roots (some e es) = id e ∷ roots es

abbrev pub size : Exprs → ℕ
size none = 0
size (some e es) = suc (size es)

-- the number of arguments of a call or a self call
abbrev pub arity : Expr → ℕ
arity (const n v) = 0
arity (param n i) = 0
arity (prim n op es) = 0
arity (call n g es) = size es
arity (self n es) = size es
arity (cond n a b c) = 0
arity (bind n ds b) = 0
arity (bound n d) = 0
