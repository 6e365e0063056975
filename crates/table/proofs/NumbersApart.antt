-- no node stands twice in an expression of an accepted table: two siblings have no node in common
use Prim.Native.Nat.{ℕ, ◌≤◌, ◌<◌}
use mathlib.Core.Path.{◌≡◌, refl, subst, sym, ap, ◌∙◌}
use mathlib.Core.List.{List}
use native.Mathlib.Omega.{arith}
use native.Mathlib.Decide.{ℕ_discrete}
use Rattle.table.specs.Syntax.{Node, Node*}
use Rattle.table.specs.Well.{Apart, Apart*, Apart₂}
use Rattle.table.proofs.Parts.{apart_bind, apart_cond}
use Rattle.table.specs.Bytes.{nodes, first, next}
use Rattle.table.specs.Naming.{parent}
use Rattle.table.specs.Working.{IsNode, Linked}
use Rattle.table.proofs.Passed.{Passed}
use Rattle.table.proofs.Links.{link, backwards}
use Rattle.table.proofs.Family.{first_node, next_node, parent_next, parent_lower}
use Rattle.table.specs.Expressions.{exprs_at, expr_at, defs_at, final_at, then_at, else_at}
use Rattle.table.proofs.Tree.{exprs_none, exprs_some, kids}
use Rattle.table.proofs.NodeCases.{NodeCase, node_case, kids_three}
use Rattle.table.proofs.NodeCases.{is_const, is_param, is_prim, is_call_lem, is_self, is_cond, is_bind, is_bound}
use Rattle.table.proofs.NodePlaces.{rise_low, meet, node_under, node_among}

module _ (t : List ℕ) (ok : Passed t) where
  abbrev lk : Linked t
  lk = ok.linking

  empty : (m c : ℕ) → c ≡ 0 → Node* m (exprs_at t c) → ⊥
  empty m c z h = subst (Node* m) (ap (exprs_at t) z ∙ exprs_none t lk) h

  -- a sibling's number is higher, and the way up from a node passes only one of them
  siblings : (c : ℕ) → IsNode t c → Apart₂ (λ m. Node m (expr_at t c)) (λ m. Node* m (exprs_at t (next t c)))
  siblings c i m p q = go (ℕ_discrete (next t c) 0)
    where
      go : Dec (next t c ≡ 0) → ⊥
      go (yes z) = empty m (next t c) z q
      go (no z) =
          let r = node_among t ok (next t c) (next_node t lk c i z) m q in
          let u = node_under t ok c i m p in
          let e = meet t u.0 r.under.0 m c r.at u.1 r.under.1 i.0 r.node.0
          (sym (r.sibling ∙ parent_next t lk c i z)) in
          omega (arith, e, r.from, ((link t lk c i).next_on z).0)

  -- a node does not stand below itself
  above_own : (n : ℕ) → IsNode t n → Node* n (exprs_at t (first t n)) → ⊥
  above_own n i h = go (ℕ_discrete (first t n) 0)
    where
      go : Dec (first t n ≡ 0) → ⊥
      go (yes z) = empty n (first t n) z h
      go (no z) =
          let r = node_among t ok (first t n) (first_node t lk n i z) n h in
          omega (arith, r.from, r.under.1, rise_low t r.under.0 n, ((link t lk n i).first_on z).0)

  pub apart_at : (n : ℕ) → IsNode t n → Apart (expr_at t n)
  unfolding defs_at final_at
  apart_at = backwards t lk (λ n. Apart (expr_at t n)) step
    where
      step : (n : ℕ) → IsNode t n → ((m : ℕ) → n < m → m ≤ nodes t → Apart (expr_at t m)) → Apart (expr_at t n)
      step n i f = go (node_case t ok n i)
        where
          chain : Apart* (exprs_at t (first t n))
          chain = kids t lk n (λ c es. Apart* es) tt (λ c j e g. (f c (lower c j e) j.1, g, siblings c j)) n i refl
            where
              lower : (c : ℕ) → IsNode t c → parent t c ≡ n → n < c
              lower c j e = omega (arith, parent_lower t c j.0, e)

          own : Node* n (exprs_at t (first t n)) → ⊥
          own = above_own n i

          go : NodeCase t n → Apart (expr_at t n)
          go (is_const k z e) = subst Apart (sym e) tt
          go (is_param k z l e) = subst Apart (sym e) tt
          go (is_prim k c e) = subst Apart (sym e) (own, chain)
          go (is_call_lem k l h c e) = subst Apart (sym e) (own, chain)
          go (is_self k w l c e) = subst Apart (sym e) (own, chain)
          go (is_cond k a b c z e) =
              let q = kids_three t ok n i a b c z in
              subst Apart (sym e) (apart_cond n (expr_at t (first t n)) (expr_at t (then_at t n)) (expr_at t (else_at t n))
              (λ p. own (subst (Node* n) (sym q) p)) (subst Apart* q chain))
          go (is_bind k a b c e) =
              let q = exprs_some t lk (first t n) a in
              subst Apart (sym e) (apart_bind n (expr_at t (first t n)) (exprs_at t (then_at t n)) (λ p. own (subst (Node* n) (sym q) p))
              (subst Apart* q chain))
          go (is_bound k z l e) = subst Apart (sym e) tt
