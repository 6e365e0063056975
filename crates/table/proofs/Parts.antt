-- parts of an expression: parts of parts, nodes and calls as parts, the last of a list apart from the rest
use Prim.Native.Nat.{ℕ}
use mathlib.Core.Path.{◌≡◌, refl, subst, sym}
use mathlib.Core.Logic.{◌⊎◌, inl, inr, ⊎_elim}
use Rattle.table.specs.Syntax.{Expr, Exprs, const, param, prim, call, self, cond, bind, bound, none, some, id, Node, Node*, Sub}
use Rattle.table.specs.Syntax.{Sub*}
use Rattle.table.specs.Well.{Apart, Apart*, Apart₂}
use Rattle.table.specs.Expressions.{last_of, rest_of}

pub sub_refl : (e : Expr) → Sub e e
sub_refl (const n v) = refl
sub_refl (param n i) = refl
sub_refl (prim n op es) = inl refl
sub_refl (call n g es) = inl refl
sub_refl (self n es) = inl refl
sub_refl (cond n a b c) = inl refl
sub_refl (bind n ds b) = inl refl
sub_refl (bound n d) = refl

module _ (u v : Expr) (h : Sub u v) where
  mutual
    pub sub_trans : (w : Expr) → Sub v w → Sub u w
    sub_trans (const n x) p = subst (Sub u) p h
    sub_trans (param n i) p = subst (Sub u) p h
    sub_trans (prim n op es) (inl p) = subst (Sub u) p h
    sub_trans (prim n op es) (inr p) = inr (sub_trans* es p)
    sub_trans (call n g es) (inl p) = subst (Sub u) p h
    sub_trans (call n g es) (inr p) = inr (sub_trans* es p)
    sub_trans (self n es) (inl p) = subst (Sub u) p h
    sub_trans (self n es) (inr p) = inr (sub_trans* es p)
    sub_trans (cond n a b c) (inl p) = subst (Sub u) p h
    sub_trans (cond n a b c) (inr (inl p)) = inr (inl (sub_trans a p))
    sub_trans (cond n a b c) (inr (inr (inl p))) = inr (inr (inl (sub_trans b p)))
    sub_trans (cond n a b c) (inr (inr (inr p))) = inr (inr (inr (sub_trans c p)))
    sub_trans (bind n ds b) (inl p) = subst (Sub u) p h
    sub_trans (bind n ds b) (inr (inl p)) = inr (inl (sub_trans* ds p))
    sub_trans (bind n ds b) (inr (inr p)) = inr (inr (sub_trans b p))
    sub_trans (bound n d) p = subst (Sub u) p h

    pub sub_trans* : (ws : Exprs) → Sub* v ws → Sub* u ws
    sub_trans* none p = p
    sub_trans* (some e es) (inl p) = inl (sub_trans e p)
    sub_trans* (some e es) (inr p) = inr (sub_trans* es p)

-- a node's number is the number of a part
abbrev Numbered : ℕ → (Expr → Type 0) → Type 0
Numbered m P = (u : Expr) × P u × (id u ≡ m)

module _ (m : ℕ) where
  mutual
    pub node_sub : (e : Expr) → Node m e → Numbered m (λ u. Sub u e)
    node_sub (const n v) p = (const n v, refl, sym p)
    node_sub (param n i) p = (param n i, refl, sym p)
    node_sub (prim n op es) (inl p) = (prim n op es, inl refl, sym p)
    node_sub (prim n op es) (inr p) = let r = node_sub* es p in (r.0, inr r.1, r.2)
    node_sub (call n g es) (inl p) = (call n g es, inl refl, sym p)
    node_sub (call n g es) (inr p) = let r = node_sub* es p in (r.0, inr r.1, r.2)
    node_sub (self n es) (inl p) = (self n es, inl refl, sym p)
    node_sub (self n es) (inr p) = let r = node_sub* es p in (r.0, inr r.1, r.2)
    node_sub (cond n a b c) (inl p) = (cond n a b c, inl refl, sym p)
    node_sub (cond n a b c) (inr (inl p)) = let r = node_sub a p in (r.0, inr (inl r.1), r.2)
    node_sub (cond n a b c) (inr (inr (inl p))) = let r = node_sub b p in (r.0, inr (inr (inl r.1)), r.2)
    node_sub (cond n a b c) (inr (inr (inr p))) = let r = node_sub c p in (r.0, inr (inr (inr r.1)), r.2)
    node_sub (bind n ds b) (inl p) = (bind n ds b, inl refl, sym p)
    node_sub (bind n ds b) (inr (inl p)) = let r = node_sub* ds p in (r.0, inr (inl r.1), r.2)
    node_sub (bind n ds b) (inr (inr p)) = let r = node_sub b p in (r.0, inr (inr r.1), r.2)
    node_sub (bound n d) p = (bound n d, refl, sym p)

    pub node_sub* : (es : Exprs) → Node* m es → Numbered m (λ u. Sub* u es)
    node_sub* none p = absurd p
    node_sub* (some e es) (inl p) = let r = node_sub e p in (r.0, inl r.1, r.2)
    node_sub* (some e es) (inr p) = let r = node_sub* es p in (r.0, inr r.1, r.2)

-- the last of a list and the rest are its parts
module _ (u : Expr) where
  pub rest_sub : (e : Expr) (es : Exprs) → Sub* u (rest_of e es) → Sub u e ⊎ Sub* u es
  rest_sub e none p = absurd p
  rest_sub e (some x es) (inl p) = inl p
  rest_sub e (some x es) (inr p) = inr (rest_sub x es p)

  pub last_sub : (e : Expr) (es : Exprs) → Sub u (last_of e es) → Sub u e ⊎ Sub* u es
  last_sub e none p = inl p
  last_sub e (some x es) p = inr (last_sub x es p)

  pub sub_parts : (e : Expr) (es : Exprs) → Sub u e ⊎ Sub* u es → Sub* u (rest_of e es) ⊎ Sub u (last_of e es)
  sub_parts e none (inl p) = inr p
  sub_parts e none (inr p) = absurd p
  sub_parts e (some x es) (inl p) = inl (inl p)
  sub_parts e (some x es) (inr p) = ⊎_elim (λ q. inl (inr q)) (λ q. inr q) (sub_parts x es p)

  pub three_in : (a b c : Expr) → Sub u a ⊎ Sub u b ⊎ Sub u c → Sub* u (some a (some b (some c none)))
  three_in a b c (inl p) = inl p
  three_in a b c (inr (inl p)) = inr (inl p)
  three_in a b c (inr (inr p)) = inr (inr (inl p))

  pub three_out : (a b c : Expr) → Sub* u (some a (some b (some c none))) → Sub u a ⊎ Sub u b ⊎ Sub u c
  three_out a b c (inl p) = inl p
  three_out a b c (inr (inl p)) = inr (inl p)
  three_out a b c (inr (inr (inl p))) = inr (inr p)
  three_out a b c (inr (inr (inr p))) = absurd p

module _ (m : ℕ) where
  pub rest_node : (e : Expr) (es : Exprs) → Node* m (rest_of e es) → Node m e ⊎ Node* m es
  rest_node e none p = absurd p
  rest_node e (some x es) (inl p) = inl p
  rest_node e (some x es) (inr p) = inr (rest_node x es p)

  pub last_node : (e : Expr) (es : Exprs) → Node m (last_of e es) → Node m e ⊎ Node* m es
  last_node e none p = inl p
  last_node e (some x es) p = inr (last_node x es p)

abbrev pub Parted : Expr → Exprs → Type 0
Parted e es = Apart* (rest_of e es) × Apart (last_of e es) × Apart₂ (λ m. Node* m (rest_of e es)) (λ m. Node m (last_of e es))

pub apart_parts : (e : Expr) (es : Exprs) → Apart* (some e es) → Parted e es
apart_parts e none a = (tt, a.0, λ m p q. p)
apart_parts e (some x es) a =
    let r = apart_parts x es a.1 in (
      (a.0, r.0, λ m p q. a.2 m p (rest_node m x es q)),
      r.1,
      λ m p q. ⊎_elim (λ y. a.2 m y (last_node m x es q)) (λ y. r.2 m y q) p,
    )

pub apart_bind : (n : ℕ) (e : Expr) (es : Exprs) → (Node* n (some e es) → ⊥) → Apart* (some e es)
    → Apart (bind n (rest_of e es) (last_of e es))
apart_bind n e es f a = let r = apart_parts e es a in (λ p. f (rest_node n e es p), λ p. f (last_node n e es p), r.0, r.1, r.2)

pub apart_cond : (n : ℕ) (a b c : Expr) → (Node* n (some a (some b (some c none))) → ⊥) → Apart* (some a (some b (some c none)))
    → Apart (cond n a b c)
apart_cond n a b c f h = (
  λ p. f (inl p),
  λ p. f (inr (inl p)),
  λ p. f (inr (inr (inl p))),
  h.0,
  h.1.0,
  h.1.1.0,
  λ m p q. h.2 m p (inl q),
  λ m p q. h.2 m p (inr (inl q)),
  λ m p q. h.1.2 m p (inl q),
)
