-- parts of an expression and their nodes
use Prim.Native.Nat.{ℕ}
use mathlib.Core.Path.{refl, subst, sym}
use mathlib.Core.Logic.{inl, inr, ⊎_elim, ◌⊎◌}
use native.Mathlib.Decide.{ℕ_discrete}
use Rattle.table.specs.Syntax.{Expr, Exprs, const, param, prim, call, self, cond, bind, bound, none, some, id, Every, Every*, Node}
use Rattle.table.specs.Syntax.{Node*, Sub, Sub*}
use Rattle.table.specs.Well.{Apart*, Apart}

module _ (u : Expr) where
  mutual
    pub apart_sub : (e : Expr) → Apart e → Sub u e → Apart u
    apart_sub (const n v) a p = subst Apart (sym p) a
    apart_sub (param n i) a p = subst Apart (sym p) a
    apart_sub (prim n op es) a (inl p) = subst Apart (sym p) a
    apart_sub (prim n op es) a (inr p) = apart_sub* es a.1 p
    apart_sub (call n g es) a (inl p) = subst Apart (sym p) a
    apart_sub (call n g es) a (inr p) = apart_sub* es a.1 p
    apart_sub (self n es) a (inl p) = subst Apart (sym p) a
    apart_sub (self n es) a (inr p) = apart_sub* es a.1 p
    apart_sub (cond n x y z) a (inl p) = subst Apart (sym p) a
    apart_sub (cond n x y z) a (inr (inl p)) = apart_sub x a.3 p
    apart_sub (cond n x y z) a (inr (inr (inl p))) = apart_sub y a.4 p
    apart_sub (cond n x y z) a (inr (inr (inr p))) = apart_sub z a.5 p
    apart_sub (bind n ds b) a (inl p) = subst Apart (sym p) a
    apart_sub (bind n ds b) a (inr (inl p)) = apart_sub* ds a.2 p
    apart_sub (bind n ds b) a (inr (inr p)) = apart_sub b a.3 p
    apart_sub (bound n d) a p = subst Apart (sym p) a

    pub apart_sub* : (es : Exprs) → Apart* es → Sub* u es → Apart u
    apart_sub* none a p = absurd p
    apart_sub* (some e es) a (inl p) = apart_sub e a.0 p
    apart_sub* (some e es) a (inr p) = apart_sub* es a.1 p

pub node_id : (e : Expr) → Node (id e) e
node_id (const n v) = refl
node_id (param n i) = refl
node_id (prim n op es) = inl refl
node_id (call n g es) = inl refl
node_id (self n es) = inl refl
node_id (cond n a b c) = inl refl
node_id (bind n ds b) = inl refl
node_id (bound n d) = refl

-- the nodes of a part are nodes of the whole
module _ (u : Expr) (m : ℕ) where
  mutual
    pub sub_node : (e : Expr) → Sub u e → Node m u → Node m e
    sub_node (const n v) p k = subst (Node m) p k
    sub_node (param n i) p k = subst (Node m) p k
    sub_node (prim n op es) (inl p) k = subst (Node m) p k
    sub_node (prim n op es) (inr p) k = inr (sub_node* es p k)
    sub_node (call n g es) (inl p) k = subst (Node m) p k
    sub_node (call n g es) (inr p) k = inr (sub_node* es p k)
    sub_node (self n es) (inl p) k = subst (Node m) p k
    sub_node (self n es) (inr p) k = inr (sub_node* es p k)
    sub_node (cond n a b c) (inl p) k = subst (Node m) p k
    sub_node (cond n a b c) (inr (inl p)) k = inr (inl (sub_node a p k))
    sub_node (cond n a b c) (inr (inr (inl p))) k = inr (inr (inl (sub_node b p k)))
    sub_node (cond n a b c) (inr (inr (inr p))) k = inr (inr (inr (sub_node c p k)))
    sub_node (bind n ds b) (inl p) k = subst (Node m) p k
    sub_node (bind n ds b) (inr (inl p)) k = inr (inl (sub_node* ds p k))
    sub_node (bind n ds b) (inr (inr p)) k = inr (inr (sub_node b p k))
    sub_node (bound n d) p k = subst (Node m) p k

    pub sub_node* : (es : Exprs) → Sub* u es → Node m u → Node* m es
    sub_node* none p k = absurd p
    sub_node* (some e es) (inl p) k = inl (sub_node e p k)
    sub_node* (some e es) (inr p) k = inr (sub_node* es p k)

module _ (P : ℕ → Type 0) (m : ℕ) where
  mutual
    pub every_node : (e : Expr) → Every P e → Node m e → P m
    every_node (const n v) h k = subst P (sym k) h
    every_node (param n i) h k = subst P (sym k) h
    every_node (prim n op es) h (inl k) = subst P (sym k) h.0
    every_node (prim n op es) h (inr k) = every_node* es h.1 k
    every_node (call n g es) h (inl k) = subst P (sym k) h.0
    every_node (call n g es) h (inr k) = every_node* es h.1 k
    every_node (self n es) h (inl k) = subst P (sym k) h.0
    every_node (self n es) h (inr k) = every_node* es h.1 k
    every_node (cond n a b c) h (inl k) = subst P (sym k) h.0
    every_node (cond n a b c) h (inr (inl k)) = every_node a h.1 k
    every_node (cond n a b c) h (inr (inr (inl k))) = every_node b h.2 k
    every_node (cond n a b c) h (inr (inr (inr k))) = every_node c h.3 k
    every_node (bind n ds b) h (inl k) = subst P (sym k) h.0
    every_node (bind n ds b) h (inr (inl k)) = every_node* ds h.1 k
    every_node (bind n ds b) h (inr (inr k)) = every_node b h.2 k
    every_node (bound n d) h k = subst P (sym k) h

    pub every_node* : (es : Exprs) → Every* P es → Node* m es → P m
    every_node* none h k = absurd k
    every_node* (some e es) h (inl k) = every_node e h.0 k
    every_node* (some e es) h (inr k) = every_node* es h.1 k

-- a node that is open or busy is in nothing idle and in nothing done

-- whether a number is an expression's
or? : {A B : Type 0} → Dec A → Dec B → Dec (A ⊎ B)
or? (yes a) d = yes (inl a)
or? (no a) (yes b) = yes (inr b)
or? (no a) (no b) = no (⊎_elim a b)

mutual
  pub node? : (m : ℕ) (e : Expr) → Dec (Node m e)
  node? m (const n v) = ℕ_discrete m n
  node? m (param n i) = ℕ_discrete m n
  node? m (prim n op es) = or? (ℕ_discrete m n) (node*? m es)
  node? m (call n g es) = or? (ℕ_discrete m n) (node*? m es)
  node? m (self n es) = or? (ℕ_discrete m n) (node*? m es)
  node? m (cond n a b c) = or? (ℕ_discrete m n) (or? (node? m a) (or? (node? m b) (node? m c)))
  node? m (bind n ds b) = or? (ℕ_discrete m n) (or? (node*? m ds) (node? m b))
  node? m (bound n d) = ℕ_discrete m n

  pub node*? : (m : ℕ) (es : Exprs) → Dec (Node* m es)
  node*? m none = no (λ z. z)
  node*? m (some e es) = or? (node? m e) (node*? m es)
