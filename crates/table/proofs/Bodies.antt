-- what the check of a table ensures of its functions' bodies, and where a node's expression stands
use Prim.Native.Nat.{ℕ, ◌≤◌, ◌<◌}
use mathlib.Core.Path.{◌≡◌, subst, sym, ap, ◌∙◌}
use mathlib.Core.List.{List}
use native.Mathlib.Omega.{arith}
use Rattle.table.specs.Syntax.{Expr, Exprs, call, id, Node, Sub}
use Rattle.table.specs.Well.{Apart, CallIn, Well}
use Rattle.table.proofs.SyntaxLaws.{node_id, sub_node}
use Rattle.table.proofs.CallPlaces.{find}
use Rattle.table.specs.Bytes.{functions, root, word}
use Rattle.table.specs.Naming.{owner}
use Rattle.table.specs.Working.{IsNode, IsFunction, Linked}
use Rattle.table.proofs.Passed.{Passed}
use Rattle.table.proofs.Family.{owner_root}
use Rattle.table.specs.Expressions.{expr_at, body_of}
use Rattle.table.proofs.NodeCases.{NodeCase, node_case, id_at}
use Rattle.table.proofs.NodeCases.{is_const, is_param, is_prim, is_call_lem, is_self, is_cond, is_bind, is_bound}
use Rattle.table.proofs.NodePlaces.{rise_node, sub_at, in_body, node_owner}
use Rattle.table.proofs.NumbersApart.{apart_at}
use Rattle.table.proofs.Tails.{tail_body}
use Rattle.table.proofs.Scopes.{scoped_body}

module _ (t : List ℕ) (ok : Passed t) where
  abbrev lk : Linked t
  lk = ok.linking

  -- a call in a body calls a lower function
  calls_lower : (c g : ℕ) (xs : Exprs) (m : ℕ) → IsNode t m → call c g xs ≡ expr_at t m → (1 ≤ g) × (g < owner t m)
  calls_lower c g xs m i p = go (node_case t ok m i)
    where
      go : NodeCase t m → (1 ≤ g) × (g < owner t m)
      go (is_const k z e) = absurd (let z : ◌≡◌ {A = ℕ} 0 1 = cc in omega arith)
      go (is_param k z l e) = absurd (let z : ◌≡◌ {A = ℕ} 0 1 = cc in omega arith)
      go (is_prim k q e) = absurd (let z : ◌≡◌ {A = ℕ} 0 1 = cc in omega arith)
      go (is_call_lem k l h q e) = let w : g ≡ word t m = cc in (omega (arith, w, l), omega (arith, w, h))
      go (is_self k w l q e) = absurd (let z : ◌≡◌ {A = ℕ} 0 1 = cc in omega arith)
      go (is_cond k a b d z e) = absurd (let z : ◌≡◌ {A = ℕ} 0 1 = cc in omega arith)
      go (is_bind k a b d e) = absurd (let z : ◌≡◌ {A = ℕ} 0 1 = cc in omega arith)
      go (is_bound k z l e) = absurd (let z : ◌≡◌ {A = ℕ} 0 1 = cc in omega arith)

  calls_below : (f c g : ℕ) → IsFunction t f → CallIn c g (body_of t f) → (1 ≤ g) × (g < f)
  unfolding body_of
  calls_below f c g i h =
      let r = lk.roots f i in
      let s = find c g (expr_at t (root t f)) h in
      let a = sub_at t ok (root t f) r (call c g s.0) s.1 in
      let l = calls_lower c g s.0 a.0 a.2.2 a.1 in
      let o = (rise_node t ok a.2.0 a.0 a.2.2 (omega (arith, a.2.1, r.0))).1 in
      let q : owner t a.0 ≡ f = sym o ∙ ap (owner t) a.2.1 ∙ owner_root t lk f i in
      (l.0, omega (arith, l.1, q))

  apart_body : (f : ℕ) → IsFunction t f → Apart (body_of t f)
  unfolding body_of
  apart_body f i = apart_at t ok (root t f) (lk.roots f i)

  pub well : Well (functions t) (body_of t)
  well = record {
    apart = apart_body;
    owner = λ f g m i j p q. sym (node_owner t ok f m i p).1 ∙ (node_owner t ok g m j q).1;
    nonzero = λ f m i p z. omega (arith, z, (node_owner t ok f m i p).0.0);
    below = calls_below;
    tail = tail_body t ok;
    scoped = scoped_body t ok;
  }

  -- a part of a body is the expression of its own number
  pub part_is : (f : ℕ) → IsFunction t f → (u : Expr) → Sub u (body_of t f)
      → (u ≡ expr_at t (id u)) × IsNode t (id u) × (owner t (id u) ≡ f)
  part_is f i u s =
      let a = found s in
      let e : id u ≡ a.0 = ap id a.1 ∙ id_at t ok a.0 a.2 in
      let o = node_owner t ok f (id u) i (sub_node u (id u) (body_of t f) s (node_id u)) in
      (a.1 ∙ ap (expr_at t) (sym e), o.0, o.1)
    where
      found : Sub u (body_of t f) → (m : ℕ) × (u ≡ expr_at t m) × IsNode t m
      found = unfold body_of in (λ s. let a = sub_at t ok (root t f) (lk.roots f i) u s in (a.0, a.1, a.2.2))

  -- the nodes of a body are those that its function owns
  pub owned_node : (f m : ℕ) → IsNode t m → owner t m ≡ f → Node m (body_of t f)
  owned_node f m i e =
      let n = subst (λ x. Node x (expr_at t m)) (id_at t ok m i) (node_id (expr_at t m)) in
      subst (λ g. Node m (body_of t g)) e (sub_node (expr_at t m) m (body_of t (owner t m)) (in_body t ok m i) n)

  pub id_body : (f : ℕ) → IsFunction t f → id (body_of t f) ≡ root t f
  unfolding body_of
  id_body f i = id_at t ok (root t f) (lk.roots f i)
