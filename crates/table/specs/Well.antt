-- what an accepted table ensures of its bodies
use Rattle.std.specs.Prelude.{ℕ, ◌^◌, ◌≤◌, ◌<◌, ◌≡◌, ◌⊎◌}
use Rattle.table.specs.Syntax.{Expr, Exprs, const, param, prim, call, self, cond, bind, bound, none, some, id, Node, Node*, Sub}
use Rattle.table.specs.Syntax.{arity}
use Rattle.table.specs.Pick.{Range}

-- the numbers in an expression differ from each other
abbrev pub Apart₂ : (ℕ → Type 0) → (ℕ → Type 0) → Type 0
Apart₂ P Q = (m : ℕ) → P m → Q m → ⊥

abbrev mutual
  pub Apart : Expr → Type 0
  Apart (const n v) = Unit {0}
  Apart (param n i) = Unit {0}
  Apart (prim n op es) = (Node* n es → ⊥) × Apart* es
  Apart (call n g es) = (Node* n es → ⊥) × Apart* es
  Apart (self n es) = (Node* n es → ⊥) × Apart* es
  Apart (cond n a b c) = (Node n a → ⊥) × (Node n b → ⊥) × (Node n c → ⊥) × Apart a × Apart b × Apart c
      × Apart₂ (λ m. Node m a) (λ m. Node m b) × Apart₂ (λ m. Node m a) (λ m. Node m c) × Apart₂ (λ m. Node m b) (λ m. Node m c)
  Apart (bind n ds b) = (Node* n ds → ⊥) × (Node n b → ⊥) × Apart* ds × Apart b × Apart₂ (λ m. Node* m ds) (λ m. Node m b)
  Apart (bound n d) = Unit {0}

  pub Apart* : Exprs → Type 0
  Apart* none = Unit {0}
  Apart* (some e es) = Apart e × Apart* es × Apart₂ (λ m. Node m e) (λ m. Node* m es)

-- c is a call of f, no self call, that stands in e
abbrev mutual
  pub CallIn : ℕ → ℕ → Expr → Type 0
  CallIn c f (const n v) = ⊥
  CallIn c f (param n i) = ⊥
  CallIn c f (prim n op es) = CallIn* c f es
  CallIn c f (call n g es) = ((n ≡ c) × (g ≡ f)) ⊎ CallIn* c f es
  CallIn c f (self n es) = CallIn* c f es
  CallIn c f (cond n a b d) = CallIn c f a ⊎ CallIn c f b ⊎ CallIn c f d
  CallIn c f (bind n ds b) = CallIn* c f ds ⊎ CallIn c f b
  CallIn c f (bound n d) = ⊥

  pub CallIn* : ℕ → ℕ → Exprs → Type 0
  CallIn* c f none = ⊥
  CallIn* c f (some e es) = CallIn c f e ⊎ CallIn* c f es

-- self calls stand in tail position
abbrev mutual
  pub NoSelf : Expr → Type 0
  NoSelf (const n v) = Unit {0}
  NoSelf (param n i) = Unit {0}
  NoSelf (prim n op es) = NoSelf* es
  NoSelf (call n g es) = NoSelf* es
  NoSelf (self n es) = ⊥
  NoSelf (cond n a b c) = NoSelf a × NoSelf b × NoSelf c
  NoSelf (bind n ds b) = NoSelf* ds × NoSelf b
  NoSelf (bound n d) = Unit {0}

  pub NoSelf* : Exprs → Type 0
  NoSelf* none = Unit {0}
  NoSelf* (some e es) = NoSelf e × NoSelf* es

abbrev pub Tail : Expr → Type 0
Tail (const n v) = Unit {0}
Tail (param n i) = Unit {0}
Tail (prim n op es) = NoSelf* es
Tail (call n g es) = NoSelf* es
Tail (self n es) = NoSelf* es
Tail (cond n a b c) = NoSelf a × Tail b × Tail c
Tail (bind n ds b) = NoSelf* ds × Tail b
Tail (bound n d) = Unit {0}

-- d is the node of one of these definientia
abbrev pub Defines : ℕ → Exprs → Type 0
Defines d none = ⊥
Defines d (some e es) = (id e ≡ d) ⊎ Defines d es

-- every bound in e names a node of S, or a definiens of a let in e in whose body the bound stands; a definiens sees neither itself nor
-- its siblings
abbrev mutual
  pub Scoped : Expr → (ℕ → Type 0) → Type 0
  Scoped (const n v) S = Unit {0}
  Scoped (param n i) S = Unit {0}
  Scoped (prim n op es) S = Scoped* es S
  Scoped (call n g es) S = Scoped* es S
  Scoped (self n es) S = Scoped* es S
  Scoped (cond n a b c) S = Scoped a S × Scoped b S × Scoped c S
  Scoped (bind n ds b) S = Scoped* ds S × Scoped b (λ d. Defines d ds ⊎ S d)
  Scoped (bound n d) S = S d

  pub Scoped* : Exprs → (ℕ → Type 0) → Type 0
  Scoped* none S = Unit {0}
  Scoped* (some e es) S = Scoped e S × Scoped* es S

-- f is a function with a body
abbrev pub Fn : ℕ → (ℕ → Expr) → ℕ → Type 0
Fn F body f = Range F f

-- what the check of a table ensures
pub record Well (F : ℕ) (body : ℕ → Expr) : Type 0 where
  pub apart : (f : ℕ) → Fn F body f → Apart (body f)
  pub owner : (f g m : ℕ) → Fn F body f → Fn F body g → Node m (body f) → Node m (body g) → f ≡ g
  pub nonzero : (f m : ℕ) → Fn F body f → Node m (body f) → m ≡ 0 → ⊥
  pub below : (f c g : ℕ) → Fn F body f → CallIn c g (body f) → (1 ≤ g) × (g < f)
  pub tail : (f : ℕ) → Fn F body f → Tail (body f)
  pub scoped : (f : ℕ) → Fn F body f → Scoped (body f) (λ d. ⊥)

pub record Laid (F N : ℕ) (body at : ℕ → Expr) (home : ℕ → ℕ) : Type 0 where
  pub some_function : 1 ≤ F
  pub functions : F ≤ 32
  pub nodes : N ≤ 512
  pub well : Well F body
  pub home_there : (n : ℕ) → Range N n → Fn F body (home n)
  pub placed : (n : ℕ) → Range N n → Sub (at n) (body (home n))
  pub number : (n : ℕ) → Range N n → id (at n) ≡ n
  pub inside : (f m : ℕ) → Fn F body f → Node m (body f) → (home m ≡ f) × (1 ≤ m) × (m ≤ N)
  pub owned : (f m : ℕ) → Range N m → home m ≡ f → Node m (body f)
  pub part : (f : ℕ) (u : Expr) → Fn F body f → Sub u (body f) → u ≡ at (id u)
  pub few : (f : ℕ) (u : Expr) → Fn F body f → Sub u (body f) → arity u ≤ 8

-- w bits hold v
abbrev pub Below : (w v : ℕ) → Type 0
Below w v = v < 2 ^ w

-- what the check ensures of the widths: 1 to 32 bits, which hold every constant of the function
pub record WidthsHold (F : ℕ) (body : ℕ → Expr) (width : ℕ → ℕ) : Type 0 where
  pub bits : (f : ℕ) → Fn F body f → Range 32 (width f)
  pub consts : (f m v : ℕ) → Fn F body f → Sub (const m v) (body f) → Below (width f) v
