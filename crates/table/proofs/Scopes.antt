-- the bounds of an accepted table name definientia of lets in whose bodies they stand
use Prim.Native.Nat.{ℕ, zero, suc, ◌≤◌, ◌<◌}
use mathlib.Core.Bool.{false, ◌&&◌, ◌||◌, not}
use mathlib.Core.Path.{◌≡◌, refl, subst, sym, ap, ◌∙◌}
use mathlib.Core.Logic.{◌⊎◌, inl, inr, ⊎_elim}
use mathlib.Core.List.{List}
use native.Mathlib.Omega.{arith}
use native.Mathlib.Decide.{ℕ_discrete}
use lib.Dec.{T, eqb, eqb→eq}
use Rattle.table.specs.Syntax.{Expr, Exprs, const, param, prim, call, self, cond, bind, bound, none, some}
use Rattle.table.specs.Well.{Defines, Scoped, Scoped*}
use Rattle.table.specs.Bytes.{nodes, root, kind, first, next}
use Rattle.table.specs.Find.{back_by, back}
use Rattle.table.proofs.FindLaws.{both, pair, either, same, isnt, back_step}
use Rattle.table.specs.Naming.{namer, parent, under_last, definiens, in_scope}
use Rattle.table.specs.Working.{IsNode, IsFunction, Linked}
use Rattle.table.proofs.Passed.{Passed}
use Rattle.table.proofs.Links.{namer_names, link, named, backwards}
use Rattle.table.proofs.Family.{next_node, parent_root, parent_first, parent_next, parent_lower}
use Rattle.table.proofs.Family.{parent_zero, parent_top}
use Rattle.table.specs.Expressions.{exprs_at, expr_at, body_of, defs_at, then_at, else_at}
use Rattle.table.proofs.Tree.{defs_some, kids, defs_along}
use Rattle.table.proofs.Children.{Final, final}
use Rattle.table.proofs.NodeCases.{NodeCase, node_case, id_at}
use Rattle.table.proofs.NodeCases.{is_const, is_param, is_prim, is_call_lem, is_self, is_cond, is_bind, is_bound}

-- a larger scope
mutual
  scoped_more : (e : Expr) (S S' : ℕ → Type 0) → ((d : ℕ) → S d → S' d) → Scoped e S → Scoped e S'
  scoped_more (const n v) S S' f x = tt
  scoped_more (param n i) S S' f x = tt
  scoped_more (prim n op es) S S' f x = scoped_more* es S S' f x
  scoped_more (call n g es) S S' f x = scoped_more* es S S' f x
  scoped_more (self n es) S S' f x = scoped_more* es S S' f x
  scoped_more (cond n a b c) S S' f x = (scoped_more a S S' f x.0, scoped_more b S S' f x.1, scoped_more c S S' f x.2)
  scoped_more (bind n ds b) S S' f x = (
    scoped_more* ds S S' f x.0,
    scoped_more b (λ d. Defines d ds ⊎ S d) (λ d. Defines d ds ⊎ S' d) (λ d. ⊎_elim (λ y. inl y) (λ y. inr (f d y))) x.1,
  )
  scoped_more (bound n d) S S' f x = f d x

  scoped_more* : (es : Exprs) (S S' : ℕ → Type 0) → ((d : ℕ) → S d → S' d) → Scoped* es S → Scoped* es S'
  scoped_more* none S S' f x = tt
  scoped_more* (some e es) S S' f x = (scoped_more e S S' f x.0, scoped_more* es S S' f x.1)

module _ (t : List ℕ) where
  pub under_step : (p n : ℕ) → 1 ≤ n → under_last t p n ≡ ((eqb (parent t n) p && eqb (next t n) 0) || under_last t p (parent t n))
  unfolding under_last
  under_step p n i = back_step (parent t) (λ n r. (eqb (parent t n) p && eqb (next t n) 0) || r) false (parent_lower t) n i

  pub under_zero : (p : ℕ) → under_last t p 0 ≡ false
  unfolding under_last back back_by
  under_zero p = refl

  pub record Definiens (d : ℕ) : Type 0 where
    pub held : parent t d ≡ 0 → ⊥
    pub of_let : kind t (parent t d) ≡ 6
    pub not_last : next t d ≡ 0 → ⊥

  is_definiens : (d : ℕ) → T (definiens t d) → Definiens d
  unfolding definiens
  is_definiens d h =
      let x = not (eqb (parent t d) 0) in
      let y = eqb (kind t (parent t d)) 6 in
      let z = not (eqb (next t d) 0) in
      let a = both (x && y) z h in
      let b = both x y a.0 in
      record {
        held = λ e. isnt (eqb (parent t d) 0) b.0 (same (parent t d) 0 e);
        of_let = eqb→eq (kind t (parent t d)) 6 b.1;
        not_last = λ e. isnt (eqb (next t d) 0) a.1 (same (next t d) 0 e);
      }

  -- in scope at a child: a sibling's definiens at the body, or in scope at the parent
  scope_down : (d n c : ℕ) → 1 ≤ c → parent t c ≡ n → T (in_scope t d c)
      → (Definiens d × (parent t d ≡ n) × (next t c ≡ 0)) ⊎ T (in_scope t d n)
  unfolding in_scope
  scope_down d n c i e h =
      let a = both (definiens t d) (under_last t (parent t d) c) h in
      let x = eqb (parent t c) (parent t d) in
      let y = eqb (next t c) 0 in
      ⊎_elim
      (λ q. let r = both x y q in inl
      (is_definiens d a.0, sym (eqb→eq (parent t c) (parent t d) r.0) ∙ e, eqb→eq (next t c) 0 r.1))
      (λ q. inr (pair (definiens t d) (under_last t (parent t d) n) a.0 (subst (λ m. T (under_last t (parent t d) m)) e q)))
      (either (x && y) (under_last t (parent t d) (parent t c)) (subst T (under_step (parent t d) c i) a.1))

  -- nothing is in scope at a root
  scope_root : (d n : ℕ) → 1 ≤ n → parent t n ≡ 0 → T (in_scope t d n) → ⊥
  scope_root d n i z h = ⊎_elim (λ p. p.0.held p.1) nowhere (scope_down d 0 n i z h)
    where
      nowhere : T (in_scope t d 0) → ⊥
      nowhere = unfold in_scope in (λ h. subst T (under_zero (parent t d)) (both (definiens t d) (under_last t (parent t d) 0) h).1)

module _ (t : List ℕ) (ok : Passed t) where
  abbrev lk : Linked t
  lk = ok.linking

  -- what has a parent is a node
  pub child_node : (d : ℕ) → (parent t d ≡ 0 → ⊥) → IsNode t d
  child_node zero h = absurd (h (parent_zero t))
  child_node (suc d) h = go (ℕ_discrete (namer t (suc d)) 0)
    where
      go : Dec (namer t (suc d) ≡ 0) → IsNode t (suc d)
      go (yes z) = absurd (h (parent_top t (suc d) (omega arith) z))
      go (no z) = let r = namer_names t (suc d) z in (omega arith, ⊎_elim (λ e. first_in_lem r.0 e) (λ e. next_in r.0 e) r.2)
        where
          first_in_lem : IsNode t (namer t (suc d)) → first t (namer t (suc d)) ≡ suc d → suc d ≤ nodes t
          first_in_lem i e = omega (arith, e, ((link t lk (namer t (suc d)) i).first_on (λ y. omega (arith, y, e))).1)

          next_in : IsNode t (namer t (suc d)) → next t (namer t (suc d)) ≡ suc d → suc d ≤ nodes t
          next_in i e = omega (arith, e, ((link t lk (namer t (suc d)) i).next_on (λ y. omega (arith, y, e))).1)

  -- a definiens is among its let's
  in_defs : (x n : ℕ) → IsNode t n → (parent t n ≡ 0 → ⊥) → Defines x (defs_at t n) → Defines x (defs_at t (first t (parent t n)))
  in_defs x = named t lk (λ n. (parent t n ≡ 0 → ⊥) → Defines x (defs_at t n) → Defines x (defs_at t (first t (parent t n))))
      (λ f i z value. absurd (z (parent_root t lk f i)))
      (λ n i z h y value. subst (λ m. Defines x (defs_at t (first t m))) (sym (parent_first t lk n i z)) value)
      (λ n i z h y value. subst (λ m. Defines x (defs_at t (first t m))) (sym (parent_next t lk n i z))
      (h (λ w. y (parent_next t lk n i z ∙ w)) (subst (Defines x) (sym (defs_some t lk n (next_node t lk n i z))) (inr value))))

  defined : (d : ℕ) → Definiens t d → Defines d (defs_at t (first t (parent t d)))
  defined d h =
      let i = child_node d h.held in
      in_defs d d i h.held (subst (Defines d) (sym (defs_some t lk d (next_node t lk d i h.not_last))) (inl (id_at t ok d i)))

  -- what the check calls in scope at n
  abbrev InScope : ℕ → ℕ → Type 0
  InScope n d = T (in_scope t d n)

  -- the expression at n has its bounds in it
  abbrev ScopedAt : ℕ → Type 0
  ScopedAt n = Scoped (expr_at t n) (InScope n)

  step : (n : ℕ) → IsNode t n → ((m : ℕ) → n < m → m ≤ nodes t → ScopedAt m) → ScopedAt n
  step n i f = go (node_case t ok n i)
    where
      at : (c : ℕ) → IsNode t c → parent t c ≡ n → ScopedAt c
      at c j e = f c (omega (arith, parent_lower t c j.0, e)) j.1

      -- a child that is no let's body has its parent's scope
      same_scope : (c : ℕ) → IsNode t c → parent t c ≡ n → ((kind t n ≡ 6) → next t c ≡ 0 → ⊥) → Scoped (expr_at t c) (InScope n)
      same_scope c j e q = scoped_more (expr_at t c) (InScope c) (InScope n)
          (λ d x. ⊎_elim (λ p. absurd (q (sym (ap (kind t) p.1) ∙ p.0.of_let) p.2)) (λ y. y) (scope_down t d n c j.0 e x))
          (at c j e)

      all : (kind t n ≡ 6 → ⊥) → Scoped* (exprs_at t (first t n)) (InScope n)
      all q = kids t lk n (λ c es. Scoped* es (InScope n)) tt (λ c j e g. (same_scope c j e (λ x y. q x), g)) n i refl

      fit : (e : Expr) → expr_at t n ≡ e → Scoped e (InScope n) → ScopedAt n
      fit e p x = subst (λ y. Scoped y (InScope n)) (sym p) x

      go : NodeCase t n → ScopedAt n
      go (is_const k z e) = fit _ e tt
      go (is_param k z l e) = fit _ e tt
      go (is_prim k c e) = fit _ e (all (λ x. omega (arith, x, k)))
      go (is_call_lem k l q c e) = fit _ e (all (λ x. omega (arith, x, k)))
      go (is_self k w l c e) = fit _ e (all (λ x. omega (arith, x, k)))
      go (is_cond k a b c z e) = fit _ e (
        same_scope (first t n) a pa (λ x y. omega (arith, x, k)),
        same_scope (then_at t n) b pb (λ x y. omega (arith, x, k)),
        same_scope (else_at t n) c pc (λ x y. omega (arith, x, k)),
      )
        where
          pa : parent t (first t n) ≡ n
          pa = parent_first t lk n i (λ z. omega (arith, z, a.0))

          pb : parent t (then_at t n) ≡ n
          pb = parent_next t lk (first t n) a (λ z. omega (arith, z, b.0)) ∙ pa

          pc : parent t (else_at t n) ≡ n
          pc = parent_next t lk (then_at t n) b (λ z. omega (arith, z, c.0)) ∙ pb
      go (is_bind k a b c e) = fit _ e (defs, subst (λ y. Scoped y Body) (sym fin.is) body)
        where
          ds : Exprs
          ds = defs_at t (first t n)

          -- what the let's body sees
          Body : ℕ → Type 0
          Body d = Defines d ds ⊎ InScope n d

          pa : parent t (first t n) ≡ n
          pa = parent_first t lk n i (λ z. omega (arith, z, a.0))

          fin : Final t ok (first t n)
          fin = final t ok (first t n) a

          pf : parent t fin.at ≡ n
          pf = fin.sibling ∙ pa

          defs : Scoped* ds (InScope n)
          defs = defs_along t lk n (λ es. Scoped* es (InScope n)) tt (λ c j e z g. (same_scope c j e (λ x y. z y), g)) (first t n) a pa

          down : (d : ℕ) → InScope fin.at d → Body d
          down d x = ⊎_elim (λ p. inl (subst (λ m. Defines d (defs_at t (first t m))) p.1 (defined d p.0))) (λ y. inr y)
              (scope_down t d n fin.at fin.node.0 pf x)

          body : Scoped (expr_at t fin.at) Body
          body = scoped_more (expr_at t fin.at) (InScope fin.at) Body down (at fin.at fin.node pf)
      go (is_bound k z l e) = fit _ e l

  fitting : (n : ℕ) → IsNode t n → ScopedAt n
  fitting = backwards t lk ScopedAt step

  pub scoped_body : (f : ℕ) → IsFunction t f → Scoped (body_of t f) (λ d. ⊥)
  unfolding body_of
  scoped_body f i =
      let r = lk.roots f i in
      scoped_more (expr_at t (root t f)) (InScope (root t f)) (λ d. ⊥)
      (λ d x. scope_root t d (root t f) r.0 (parent_root t lk f i) x) (fitting (root t f) r)
