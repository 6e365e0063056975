-- where a call stands in a body
use Prim.Native.Nat.{ℕ}
use mathlib.Core.Path.{◌≡◌, subst, sym, ap, ◌∙◌}
use mathlib.Core.Logic.{inl, inr}
use native.Mathlib.Omega.{arith}
use Rattle.table.specs.Syntax.{Expr, Exprs, const, param, prim, call, self, cond, bind, bound, none, some, id, Node, Node*, Sub}
use Rattle.table.specs.Syntax.{Sub*}
use Rattle.table.specs.Well.{Apart, Apart*, CallIn*, CallIn}
use Rattle.table.proofs.SyntaxLaws.{node_id, sub_node, sub_node*}

module _ (c f : ℕ) where
  mutual
    pub call_node : (e : Expr) → CallIn c f e → Node c e
    call_node (const n v) k = absurd k
    call_node (param n i) k = absurd k
    call_node (prim n op es) k = inr (call_node* es k)
    call_node (call n g es) (inl k) = inl (sym k.0)
    call_node (call n g es) (inr k) = inr (call_node* es k)
    call_node (self n es) k = inr (call_node* es k)
    call_node (cond n a b d) (inl k) = inr (inl (call_node a k))
    call_node (cond n a b d) (inr (inl k)) = inr (inr (inl (call_node b k)))
    call_node (cond n a b d) (inr (inr k)) = inr (inr (inr (call_node d k)))
    call_node (bind n ds b) (inl k) = inr (inl (call_node* ds k))
    call_node (bind n ds b) (inr k) = inr (inr (call_node b k))
    call_node (bound n d) k = absurd k

    pub call_node* : (es : Exprs) → CallIn* c f es → Node* c es
    call_node* none k = absurd k
    call_node* (some e es) (inl k) = inl (call_node e k)
    call_node* (some e es) (inr k) = inr (call_node* es k)

-- a call's own place
module _ (n g : ℕ) (es : Exprs) where
  mutual
    pub sub_call : (e : Expr) → Sub (call n g es) e → CallIn n g e
    sub_call (const m v) p = absurd (differs p)
      where
        differs : call n g es ≡ const m v → ⊥
        differs p = let z : ◌≡◌ {A = ℕ} 0 1 = cc in omega arith
    sub_call (param m i) p = absurd (let z : ◌≡◌ {A = ℕ} 0 1 = cc in omega arith)
    sub_call (prim m op xs) (inl p) = absurd (let z : ◌≡◌ {A = ℕ} 0 1 = cc in omega arith)
    sub_call (prim m op xs) (inr p) = sub_call* xs p
    sub_call (call m q xs) (inl p) = inl (cc, cc)
    sub_call (call m q xs) (inr p) = inr (sub_call* xs p)
    sub_call (self m xs) (inl p) = absurd (let z : ◌≡◌ {A = ℕ} 0 1 = cc in omega arith)
    sub_call (self m xs) (inr p) = sub_call* xs p
    sub_call (cond m a b d) (inl p) = absurd (let z : ◌≡◌ {A = ℕ} 0 1 = cc in omega arith)
    sub_call (cond m a b d) (inr (inl p)) = inl (sub_call a p)
    sub_call (cond m a b d) (inr (inr (inl p))) = inr (inl (sub_call b p))
    sub_call (cond m a b d) (inr (inr (inr p))) = inr (inr (sub_call d p))
    sub_call (bind m ds b) (inl p) = absurd (let z : ◌≡◌ {A = ℕ} 0 1 = cc in omega arith)
    sub_call (bind m ds b) (inr (inl p)) = inl (sub_call* ds p)
    sub_call (bind m ds b) (inr (inr p)) = inr (sub_call b p)
    sub_call (bound m d) p = absurd (let z : ◌≡◌ {A = ℕ} 0 1 = cc in omega arith)

    pub sub_call* : (xs : Exprs) → Sub* (call n g es) xs → CallIn* n g xs
    sub_call* none p = absurd p
    sub_call* (some e xs) (inl p) = inl (sub_call e p)
    sub_call* (some e xs) (inr p) = inr (sub_call* xs p)

-- numbers being apart, the node of a call's number is that call
module _ (u : Expr) (c f : ℕ) (same : id u ≡ c) where
  abbrev IsCall : Type 0
  IsCall = (es : Exprs) × (u ≡ call c f es)

  in_u : (e : Expr) → Sub u e → Node c e
  in_u e p = sub_node u c e p (subst (λ m. Node m u) same (node_id u))

  in_u* : (es : Exprs) → Sub* u es → Node* c es
  in_u* es p = sub_node* u c es p (subst (λ m. Node m u) same (node_id u))

  mutual
    pub call_at : (e : Expr) → Apart e → CallIn c f e → Sub u e → IsCall
    call_at (const n v) a k p = absurd k
    call_at (param n i) a k p = absurd k
    call_at (prim n op es) a k (inl p) = absurd (a.0 (subst (λ m. Node* m es) (sym same ∙ ap id p) (call_node* c f es k)))
    call_at (prim n op es) a k (inr p) = call_at* es a.1 k p
    call_at (call n g es) a (inl k) (inl p) = (es, p ∙ (λ i. call (k.0 i) (k.1 i) es))
    call_at (call n g es) a (inr k) (inl p) = absurd (a.0 (subst (λ m. Node* m es) (sym same ∙ ap id p) (call_node* c f es k)))
    call_at (call n g es) a (inl k) (inr p) = absurd (a.0 (subst (λ m. Node* m es) (sym k.0) (in_u* es p)))
    call_at (call n g es) a (inr k) (inr p) = call_at* es a.1 k p
    call_at (self n es) a k (inl p) = absurd (a.0 (subst (λ m. Node* m es) (sym same ∙ ap id p) (call_node* c f es k)))
    call_at (self n es) a k (inr p) = call_at* es a.1 k p
    call_at (cond n x y z) a (inl k) (inl p) = absurd (a.0 (subst (λ m. Node m x) (sym same ∙ ap id p) (call_node c f x k)))
    call_at (cond n x y z) a (inr (inl k)) (inl p) = absurd (a.1 (subst (λ m. Node m y) (sym same ∙ ap id p) (call_node c f y k)))
    call_at (cond n x y z) a (inr (inr k)) (inl p) = absurd (a.2 (subst (λ m. Node m z) (sym same ∙ ap id p) (call_node c f z k)))
    call_at (cond n x y z) a (inl k) (inr (inl p)) = call_at x a.3 k p
    call_at (cond n x y z) a (inl k) (inr (inr (inl p))) = absurd (a.6 c (call_node c f x k) (in_u y p))
    call_at (cond n x y z) a (inl k) (inr (inr (inr p))) = absurd (a.7 c (call_node c f x k) (in_u z p))
    call_at (cond n x y z) a (inr (inl k)) (inr (inl p)) = absurd (a.6 c (in_u x p) (call_node c f y k))
    call_at (cond n x y z) a (inr (inl k)) (inr (inr (inl p))) = call_at y a.4 k p
    call_at (cond n x y z) a (inr (inl k)) (inr (inr (inr p))) = absurd (a.8 c (call_node c f y k) (in_u z p))
    call_at (cond n x y z) a (inr (inr k)) (inr (inl p)) = absurd (a.7 c (in_u x p) (call_node c f z k))
    call_at (cond n x y z) a (inr (inr k)) (inr (inr (inl p))) = absurd (a.8 c (in_u y p) (call_node c f z k))
    call_at (cond n x y z) a (inr (inr k)) (inr (inr (inr p))) = call_at z a.5 k p
    call_at (bind n ds b) a (inl k) (inl p) = absurd (a.0 (subst (λ m. Node* m ds) (sym same ∙ ap id p) (call_node* c f ds k)))
    call_at (bind n ds b) a (inr k) (inl p) = absurd (a.1 (subst (λ m. Node m b) (sym same ∙ ap id p) (call_node c f b k)))
    call_at (bind n ds b) a (inl k) (inr (inl p)) = call_at* ds a.2 k p
    call_at (bind n ds b) a (inl k) (inr (inr p)) = absurd (a.4 c (call_node* c f ds k) (in_u b p))
    call_at (bind n ds b) a (inr k) (inr (inl p)) = absurd (a.4 c (in_u* ds p) (call_node c f b k))
    call_at (bind n ds b) a (inr k) (inr (inr p)) = call_at b a.3 k p
    call_at (bound n d) a k p = absurd k

    pub call_at* : (es : Exprs) → Apart* es → CallIn* c f es → Sub* u es → IsCall
    call_at* none a k p = absurd k
    call_at* (some e es) a (inl k) (inl p) = call_at e a.0 k p
    call_at* (some e es) a (inl k) (inr p) = absurd (a.2 c (call_node c f e k) (in_u* es p))
    call_at* (some e es) a (inr k) (inl p) = absurd (a.2 c (in_u e p) (call_node* c f es k))
    call_at* (some e es) a (inr k) (inr p) = call_at* es a.1 k p

-- the call of a holder, as an expression
module _ (c f : ℕ) where
  mutual
    pub find : (e : Expr) → CallIn c f e → (es : Exprs) × Sub (call c f es) e
    find (const n v) k = absurd k
    find (param n i) k = absurd k
    find (prim n op es) k = let x = find* es k in (x.0, inr x.1)
    find (call n g es) (inl k) = (es, inl (λ i. call (sym k.0 i) (sym k.1 i) es))
    find (call n g es) (inr k) = let x = find* es k in (x.0, inr x.1)
    find (self n es) k = let x = find* es k in (x.0, inr x.1)
    find (cond n x y z) (inl k) = let x = find x k in (x.0, inr (inl x.1))
    find (cond n x y z) (inr (inl k)) = let x = find y k in (x.0, inr (inr (inl x.1)))
    find (cond n x y z) (inr (inr k)) = let x = find z k in (x.0, inr (inr (inr x.1)))
    find (bind n ds b) (inl k) = let x = find* ds k in (x.0, inr (inl x.1))
    find (bind n ds b) (inr k) = let x = find b k in (x.0, inr (inr x.1))
    find (bound n d) k = absurd k

    pub find* : (xs : Exprs) → CallIn* c f xs → (es : Exprs) × Sub* (call c f es) xs
    find* none k = absurd k
    find* (some e xs) (inl k) = let x = find e k in (x.0, inl x.1)
    find* (some e xs) (inr k) = let x = find* xs k in (x.0, inr x.1)
