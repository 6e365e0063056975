-- in a body whose numbers differ, two parts with a node in common are one within the other; so a number names one expression
use Prim.Native.Nat.{ℕ}
use mathlib.Core.Path.{◌≡◌, subst, sym}
use mathlib.Core.Logic.{◌⊎◌, inl, inr, ⊎_elim}
use Rattle.table.specs.Syntax.{Expr, Exprs, const, param, prim, call, self, cond, bind, bound, none, some, id, Node, Node*, Sub, Sub*}
use Rattle.table.specs.Well.{Apart, Apart*}
use Rattle.table.proofs.SyntaxLaws.{node_id, sub_node, sub_node*, apart_sub}

module _ (u w : Expr) (m : ℕ) (in_u : Node m u) (in_w : Node m w) where
  -- one of them is the whole
  all_u : (e : Expr) → u ≡ e → Sub w e → Sub u w ⊎ Sub w u
  all_u e p q = inr (subst (Sub w) (sym p) q)

  all_w : (e : Expr) → w ≡ e → Sub u e → Sub u w ⊎ Sub w u
  all_w e q p = inl (subst (Sub u) (sym q) p)

  -- the node in each
  u_in : (e : Expr) → Sub u e → Node m e
  u_in e p = sub_node u m e p in_u

  w_in : (e : Expr) → Sub w e → Node m e
  w_in e q = sub_node w m e q in_w

  mutual
    pub nested : (e : Expr) → Apart e → Sub u e → Sub w e → Sub u w ⊎ Sub w u
    nested (const n v) a p q = all_u (const n v) p q
    nested (param n i) a p q = all_u (param n i) p q
    nested (prim n op es) a (inl p) q = all_u (prim n op es) p q
    nested (prim n op es) a (inr p) (inl q) = all_w (prim n op es) q (inr p)
    nested (prim n op es) a (inr p) (inr q) = nested* es a.1 p q
    nested (call n g es) a (inl p) q = all_u (call n g es) p q
    nested (call n g es) a (inr p) (inl q) = all_w (call n g es) q (inr p)
    nested (call n g es) a (inr p) (inr q) = nested* es a.1 p q
    nested (self n es) a (inl p) q = all_u (self n es) p q
    nested (self n es) a (inr p) (inl q) = all_w (self n es) q (inr p)
    nested (self n es) a (inr p) (inr q) = nested* es a.1 p q
    nested (cond n x y z) a (inl p) q = all_u (cond n x y z) p q
    nested (cond n x y z) a (inr p) (inl q) = all_w (cond n x y z) q (inr p)
    nested (cond n x y z) a (inr (inl p)) (inr (inl q)) = nested x a.3 p q
    nested (cond n x y z) a (inr (inl p)) (inr (inr (inl q))) = absurd (a.6 m (u_in x p) (w_in y q))
    nested (cond n x y z) a (inr (inl p)) (inr (inr (inr q))) = absurd (a.7 m (u_in x p) (w_in z q))
    nested (cond n x y z) a (inr (inr (inl p))) (inr (inl q)) = absurd (a.6 m (w_in x q) (u_in y p))
    nested (cond n x y z) a (inr (inr (inl p))) (inr (inr (inl q))) = nested y a.4 p q
    nested (cond n x y z) a (inr (inr (inl p))) (inr (inr (inr q))) = absurd (a.8 m (u_in y p) (w_in z q))
    nested (cond n x y z) a (inr (inr (inr p))) (inr (inl q)) = absurd (a.7 m (w_in x q) (u_in z p))
    nested (cond n x y z) a (inr (inr (inr p))) (inr (inr (inl q))) = absurd (a.8 m (w_in y q) (u_in z p))
    nested (cond n x y z) a (inr (inr (inr p))) (inr (inr (inr q))) = nested z a.5 p q
    nested (bind n ds b) a (inl p) q = all_u (bind n ds b) p q
    nested (bind n ds b) a (inr p) (inl q) = all_w (bind n ds b) q (inr p)
    nested (bind n ds b) a (inr (inl p)) (inr (inl q)) = nested* ds a.2 p q
    nested (bind n ds b) a (inr (inl p)) (inr (inr q)) = absurd (a.4 m (sub_node* u m ds p in_u) (w_in b q))
    nested (bind n ds b) a (inr (inr p)) (inr (inl q)) = absurd (a.4 m (sub_node* w m ds q in_w) (u_in b p))
    nested (bind n ds b) a (inr (inr p)) (inr (inr q)) = nested b a.3 p q
    nested (bound n d) a p q = all_u (bound n d) p q

    nested* : (es : Exprs) → Apart* es → Sub* u es → Sub* w es → Sub u w ⊎ Sub w u
    nested* none a p q = absurd p
    nested* (some e es) a (inl p) (inl q) = nested e a.0 p q
    nested* (some e es) a (inl p) (inr q) = absurd (a.2 m (u_in e p) (sub_node* w m es q in_w))
    nested* (some e es) a (inr p) (inl q) = absurd (a.2 m (w_in e q) (sub_node* u m es p in_u))
    nested* (some e es) a (inr p) (inr q) = nested* es a.1 p q

-- a part that has the number of the whole is the whole
top_unique : (u w : Expr) → id u ≡ id w → Apart w → Sub u w → u ≡ w
top_unique u w same a p = go w a same p
  where
    -- it isn't below
    number : (n : ℕ) → id u ≡ n → (e : Expr) → Sub u e → Node n e
    number n i e q = subst (λ m. Node m e) i (sub_node u (id u) e q (node_id u))

    number* : (n : ℕ) → id u ≡ n → (es : Exprs) → Sub* u es → Node* n es
    number* n i es q = subst (λ m. Node* m es) i (sub_node* u (id u) es q (node_id u))

    go : (e : Expr) → Apart e → id u ≡ id e → Sub u e → u ≡ e
    go (const n v) a i p = p
    go (param n j) a i p = p
    go (prim n op es) a i (inl p) = p
    go (prim n op es) a i (inr p) = absurd (a.0 (number* n i es p))
    go (call n g es) a i (inl p) = p
    go (call n g es) a i (inr p) = absurd (a.0 (number* n i es p))
    go (self n es) a i (inl p) = p
    go (self n es) a i (inr p) = absurd (a.0 (number* n i es p))
    go (cond n x y z) a i (inl p) = p
    go (cond n x y z) a i (inr (inl p)) = absurd (a.0 (number n i x p))
    go (cond n x y z) a i (inr (inr (inl p))) = absurd (a.1 (number n i y p))
    go (cond n x y z) a i (inr (inr (inr p))) = absurd (a.2 (number n i z p))
    go (bind n ds b) a i (inl p) = p
    go (bind n ds b) a i (inr (inl p)) = absurd (a.0 (number* n i ds p))
    go (bind n ds b) a i (inr (inr p)) = absurd (a.1 (number n i b p))
    go (bound n d) a i p = p

pub sub_unique : (u w : Expr) → id u ≡ id w → (e : Expr) → Apart e → Sub u e → Sub w e → u ≡ w
sub_unique u w same e a p q =
    ⊎_elim (top_unique u w same (apart_sub w e a q)) (λ k. sym (top_unique w u (sym same) (apart_sub u e a p) k))
    (nested u w (id u) (node_id u) (subst (λ m. Node m w) (sym same) (node_id w)) e a p q)
