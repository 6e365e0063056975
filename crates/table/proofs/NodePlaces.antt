-- the parts of an expression of an accepted table are the expressions of the nodes below its own
use Prim.Native.Nat.{ℕ, zero, suc, ◌≤◌, ◌<◌}
use mathlib.Core.Path.{◌≡◌, refl, subst, sym, ap, ◌∙◌}
use mathlib.Core.Logic.{◌⊎◌, inl, inr, ⊎_elim}
use mathlib.Core.List.{List}
use native.Mathlib.Omega.{arith}
use native.Mathlib.Decide.{ℕ_discrete}
use Rattle.table.specs.Syntax.{Expr, Exprs, some, id, Node, Node*, Sub, Sub*}
use Rattle.table.proofs.Parts.{sub_refl, sub_trans, node_sub, rest_sub, last_sub, sub_parts, three_in, three_out}
use Rattle.table.specs.Bytes.{nodes, root, first, next}
use Rattle.table.specs.Naming.{root_of, owner, parent}
use Rattle.table.specs.Working.{IsNode, IsFunction, Linked}
use Rattle.table.proofs.Passed.{Passed}
use Rattle.table.proofs.Links.{link, root_named, named, backwards}
use Rattle.table.proofs.Family.{owner_root, owner_in, parent_root, parent_first, parent_next, parent_lower, parent_zero}
use Rattle.table.proofs.Family.{parent_node, owner_parent}
use Rattle.table.specs.Expressions.{exprs_at, expr_at, body_of, defs_at, final_at, then_at, else_at}
use Rattle.table.proofs.Tree.{exprs_none, exprs_some, along, kids}
use Rattle.table.proofs.NodeCases.{NodeCase, node_case, id_at, kids_three}
use Rattle.table.proofs.NodeCases.{is_const, is_param, is_prim, is_call_lem, is_self, is_cond, is_bind, is_bound}

-- k parents up
unfoldable pub rise : List ℕ → ℕ → ℕ → ℕ
rise t zero m = m
rise t (suc k) m = rise t k (parent t m)

-- m is n or stands below it
abbrev pub Under : List ℕ → ℕ → ℕ → Type 0
Under t n m = (k : ℕ) × (rise t k m ≡ n) × IsNode t m

module _ (t : List ℕ) where
  pub rise_up : (k m : ℕ) → rise t (suc k) m ≡ parent t (rise t k m)
  unfolding rise
  rise_up zero m = refl
  rise_up (suc k) m = rise_up k (parent t m)

  parent_le : (m : ℕ) → parent t m ≤ m
  parent_le zero = omega (arith, parent_zero t)
  parent_le (suc m) = let l = parent_lower t (suc m) (omega arith) in omega arith

  pub rise_low : (k m : ℕ) → rise t k m ≤ m
  unfolding rise
  rise_low zero m = omega arith
  rise_low (suc k) m = omega (arith, rise_low k (parent t m), parent_le m)

  -- two nodes with one parent, both above m, are one
  pub meet : (k j m a b : ℕ) → rise t k m ≡ a → rise t j m ≡ b → 1 ≤ a → 1 ≤ b → parent t a ≡ parent t b → a ≡ b
  unfolding rise
  meet zero zero m a b p q x y e = sym p ∙ q
  meet zero (suc j) m a b p q x y e = absurd (omega (arith, q, rise_low j (parent t m), ap (parent t) p, e, parent_lower t b y))
  meet (suc k) zero m a b p q x y e = absurd (omega (arith, p, rise_low k (parent t m), ap (parent t) q, e, parent_lower t a x))
  meet (suc k) (suc j) m a b p q x y e = meet k j (parent t m) a b p q x y e

module _ (t : List ℕ) (ok : Passed t) where
  abbrev lk : Linked t
  lk = ok.linking

  pub rise_node : (k m : ℕ) → IsNode t m → 1 ≤ rise t k m → IsNode t (rise t k m) × (owner t (rise t k m) ≡ owner t m)
  unfolding rise
  rise_node zero m i h = (i, refl)
  rise_node (suc k) m i h =
      let p = parent_node t lk m i (λ z. omega (arith, z, h, rise_low t k (parent t m))) in
      let r = rise_node k (parent t m) p h in
      (r.0, r.1 ∙ owner_parent t lk m i (λ z. omega (arith, z, p.0)))

  -- a part is the whole, or part of a child
  module _ (u : Expr) (n : ℕ) (i : IsNode t n) where
    abbrev Kids : Type 0
    Kids = Sub* u (exprs_at t (first t n))

    abbrev A : Expr
    A = expr_at t (first t n)

    abbrev B : Expr
    B = expr_at t (then_at t n)

    abbrev C : Expr
    C = expr_at t (else_at t n)

    abbrev Es : Exprs
    Es = exprs_at t (then_at t n)

    whole_or : (e : Expr) → expr_at t n ≡ e → (Sub u e → (u ≡ e) ⊎ Kids) → Sub u (expr_at t n) → (u ≡ expr_at t n) ⊎ Kids
    whole_or e p f s = ⊎_elim (λ x. inl (x ∙ sym p)) (λ x. inr x) (f (subst (Sub u) p s))

    pub sub_out : Sub u (expr_at t n) → (u ≡ expr_at t n) ⊎ Kids
    unfolding defs_at final_at
    sub_out s = go (node_case t ok n i)
      where
        go : NodeCase t n → (u ≡ expr_at t n) ⊎ Kids
        go (is_const k z e) = whole_or _ e (λ x. inl x) s
        go (is_param k z l e) = whole_or _ e (λ x. inl x) s
        go (is_prim k c e) = whole_or _ e (λ x. x) s
        go (is_call_lem k l h c e) = whole_or _ e (λ x. x) s
        go (is_self k w l c e) = whole_or _ e (λ x. x) s
        go (is_cond k a b c z e) =
            whole_or _ e (λ x. ⊎_elim (λ y. inl y)
            (λ y. inr (subst (Sub* u) (sym (kids_three t ok n i a b c z)) (three_in u A B C y))) x) s
        go (is_bind k a b c e) =
            whole_or _ e (λ x. ⊎_elim (λ y. inl y) (λ y. inr (subst (Sub* u) (sym (exprs_some t lk (first t n) a)) (parts y))) x) s
          where
            parts : Sub* u (defs_at t (first t n)) ⊎ Sub u (final_at t (first t n)) → Sub* u (some A Es)
            parts (inl y) = rest_sub u A Es y
            parts (inr y) = last_sub u A Es y
        go (is_bound k z l e) = whole_or _ e (λ x. inl x) s

    pub sub_in : Kids → Sub u (expr_at t n)
    unfolding defs_at final_at
    sub_in s = go (node_case t ok n i)
      where
        never : first t n ≡ 0 → ⊥
        never z = subst (Sub* u) (ap (exprs_at t) z ∙ exprs_none t lk) s

        go : NodeCase t n → Sub u (expr_at t n)
        go (is_const k z e) = absurd (never z)
        go (is_param k z l e) = absurd (never z)
        go (is_prim k c e) = subst (Sub u) (sym e) (inr s)
        go (is_call_lem k l h c e) = subst (Sub u) (sym e) (inr s)
        go (is_self k w l c e) = subst (Sub u) (sym e) (inr s)
        go (is_cond k a b c z e) = subst (Sub u) (sym e) (inr (three_out u A B C (subst (Sub* u) (kids_three t ok n i a b c z) s)))
        go (is_bind k a b c e) =
            subst (Sub u) (sym e) (inr (sub_parts u A Es (subst (Sub* u) (exprs_some t lk (first t n) a) s)))
        go (is_bound k z l e) = absurd (never z)

  -- a part of a node's expression is the expression of a node under it
  abbrev pub At : ℕ → Expr → Type 0
  At n u = (m : ℕ) × (u ≡ expr_at t m) × Under t n m

  lift : (n c : ℕ) (u : Expr) → parent t c ≡ n → At c u → At n u
  lift n c u e a = (a.0, a.1, (suc a.2.0, rise_up t a.2.0 a.0 ∙ ap (parent t) a.2.1 ∙ e, a.2.2))

  pub sub_at : (n : ℕ) → IsNode t n → (u : Expr) → Sub u (expr_at t n) → At n u
  sub_at = backwards t lk (λ n. (u : Expr) → Sub u (expr_at t n) → At n u) step
    where
      step : (n : ℕ) → IsNode t n → ((m : ℕ) → n < m → m ≤ nodes t → (u : Expr) → Sub u (expr_at t m) → At m u) → (u : Expr)
          → Sub u (expr_at t n) → At n u
      step n i f u s = ⊎_elim (λ e. (n, e, (0, unfold rise in refl, i))) below (sub_out u n i s)
        where
          below : Sub* u (exprs_at t (first t n)) → At n u
          below = kids t lk n (λ c es. Sub* u es → At n u) (λ x. absurd x)
              (λ c j e g x. ⊎_elim (λ y. lift n c u e (f c (lower c j e) j.1 u y)) g x) n i refl
            where
              lower : (c : ℕ) → IsNode t c → parent t c ≡ n → n < c
              lower c j e = omega (arith, parent_lower t c j.0, e)

  -- a node's number tells its place
  pub node_under : (n : ℕ) → IsNode t n → (m : ℕ) → Node m (expr_at t n) → Under t n m
  node_under n i m h =
      let r = node_sub m (expr_at t n) h in
      let a = sub_at n i r.0 r.1 in
      let e : a.0 ≡ m = sym (id_at t ok a.0 a.2.2) ∙ ap id (sym a.1) ∙ r.2 in
      subst (Under t n) e a.2

  pub record Among (c m : ℕ) : Type 0 where
    pub start : 1 ≤ c
    pub at : ℕ
    pub node : IsNode t at
    pub from : c ≤ at
    pub sibling : parent t at ≡ parent t c
    pub under : Under t at m

  pub node_among : (c : ℕ) → IsNode t c → (m : ℕ) → Node* m (exprs_at t c) → Among c m
  node_among c i m =
      along t lk (parent t c) (λ c es. Node* m es → Among c m) (λ x. absurd x)
      (λ x j e g h. ⊎_elim (here x j) (λ y. on x j (g y)) h) c i refl
    where
      here : (x : ℕ) → IsNode t x → Node m (expr_at t x) → Among x m
      here x j y = record { start = j.0; at = x; node = j; from = omega arith; sibling = refl; under = node_under x j m y }

      on : (x : ℕ) → IsNode t x → Among (next t x) m → Among x m
      on x j r =
          let z : next t x ≡ 0 → ⊥ = λ z. omega (arith, z, r.start) in
          let l = (link t lk x j).next_on z in
          record {
            start = j.0;
            at = r.at;
            node = r.node;
            from = omega (arith, r.from, l.0);
            sibling = r.sibling ∙ parent_next t lk x j z;
            under = r.under;
          }

  -- only a root has no parent, as a root has no next
  pub top_root : (n : ℕ) → IsNode t n → parent t n ≡ 0 → root t (owner t n) ≡ n
  top_root = named t lk (λ n. parent t n ≡ 0 → root t (owner t n) ≡ n)
      (λ f i z. ap (root t) (owner_root t lk f i))
      (λ n i z h e. absurd (omega (arith, sym (parent_first t lk n i z) ∙ e, i.0)))
      (λ n i z h e. absurd (⊎_elim (λ x. not_root n i (h (sym (parent_next t lk n i z) ∙ e)) x) z (link t lk n i).root_ends))
    where
      not_root : (n : ℕ) → IsNode t n → root t (owner t n) ≡ n → root_of t n ≡ 0 → ⊥
      not_root n i e z =
          let o = owner_in t lk n i in
          omega (arith, o.0, sym (root_named t lk (owner t n) o).1 ∙ ap (root_of t) e ∙ z)

  -- every node's expression stands in the body of its function
  in_chain : (u : Expr) (n : ℕ) → IsNode t n → (parent t n ≡ 0 → ⊥) → Sub* u (exprs_at t n) → Sub* u (exprs_at t (first t (parent t n)))
  in_chain u = named t lk (λ n. (parent t n ≡ 0 → ⊥) → Sub* u (exprs_at t n) → Sub* u (exprs_at t (first t (parent t n))))
      (λ f i z s. absurd (z (parent_root t lk f i)))
      (λ n i z h x s. subst (λ m. Sub* u (exprs_at t (first t m))) (sym (parent_first t lk n i z)) s)
      (λ n i z h x s. subst (λ m. Sub* u (exprs_at t (first t m))) (sym (parent_next t lk n i z))
      (h (λ y. x (parent_next t lk n i z ∙ y)) (subst (Sub* u) (sym (exprs_some t lk n i)) (inr s))))

  pub in_parent : (n : ℕ) → IsNode t n → (parent t n ≡ 0 → ⊥) → Sub (expr_at t n) (expr_at t (parent t n))
  in_parent n i z =
      let p = parent_node t lk n i z in
      sub_in (expr_at t n) (parent t n) p
      (in_chain (expr_at t n) n i z (subst (Sub* (expr_at t n)) (sym (exprs_some t lk n i)) (inl (sub_refl (expr_at t n)))))

  pub in_body : (n : ℕ) → IsNode t n → Sub (expr_at t n) (body_of t (owner t n))
  unfolding body_of
  in_body n i = by n n (omega arith) i
    where
      by : (k n : ℕ) → n ≤ k → IsNode t n → Sub (expr_at t n) (expr_at t (root t (owner t n)))
      by zero n h i = absurd (omega arith)
      by (suc k) n h i = go (ℕ_discrete (parent t n) 0) (λ m l j. by k m (omega arith) j)
        where
          go : Dec (parent t n ≡ 0) → ((m : ℕ) → m < n → IsNode t m → Sub (expr_at t m) (expr_at t (root t (owner t m))))
              → Sub (expr_at t n) (expr_at t (root t (owner t n)))
          go (yes z) f = subst (λ m. Sub (expr_at t n) (expr_at t m)) (sym (top_root n i z)) (sub_refl (expr_at t n))
          go (no z) f =
              let s = f (parent t n) (parent_lower t n i.0) (parent_node t lk n i z) in
              sub_trans (expr_at t n) (expr_at t (parent t n)) (in_parent n i z) (expr_at t (root t (owner t n)))
              (subst (λ g. Sub (expr_at t (parent t n)) (expr_at t (root t g))) (owner_parent t lk n i z) s)

  -- a node of a body belongs to that function
  pub node_owner : (f m : ℕ) → IsFunction t f → Node m (body_of t f) → IsNode t m × (owner t m ≡ f)
  unfolding body_of
  node_owner f m i h =
      let r = lk.roots f i in
      let u = node_under (root t f) r m h in
      let o = rise_node u.0 m u.2 (omega (arith, u.1, r.0)) in
      (u.2, sym o.1 ∙ ap (owner t) u.1 ∙ owner_root t lk f i)
