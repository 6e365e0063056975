-- in an accepted table the parent of a node is the one node whose expression has it as a child; only roots have none
use Prim.Native.Nat.{ℕ, ◌≤◌, ◌<◌}
use mathlib.Core.Path.{◌≡◌, subst, sym, ap, ◌∙◌}
use mathlib.Core.Logic.{◌⊎◌, inl, inr}
use mathlib.Core.List.{List, [], ◌∷◌, ◌++◌}
use native.Mathlib.Omega.{arith}
use native.Mathlib.Decide.{ℕ_discrete}
use Rattle.table.specs.Syntax.{id, roots}
use Rattle.table.specs.Bytes.{functions, nodes, first, next}
use Rattle.table.specs.Naming.{owner, parent, chain, children}
use Rattle.table.specs.Check.{accepted, check_of}
use Rattle.table.specs.Expressions.{exprs_at, expr_at, body_of, defs_at, final_at, then_at, else_at}
use Rattle.table.specs.Working.{IsNode, Linked}
use Rattle.table.proofs.Bodies.{id_body}
use Rattle.table.proofs.Passed.{Passed, passed}
use Rattle.table.proofs.Links.{link, backwards}
use Rattle.table.proofs.Family.{parent_root, parent_first, parent_next, owner_in}
use Rattle.table.proofs.Tree.{chain_none, chain_some}
use Rattle.table.proofs.NodeCases.{NodeCase, node_case, id_at}
use Rattle.table.proofs.NodeCases.{is_const, is_param, is_prim, is_call_lem, is_self, is_cond, is_bind, is_bound}
use Rattle.table.proofs.Children.{roots_kids, Final, final}
use Rattle.table.proofs.NodePlaces.{top_root}
use Rattle.rules.specs.State.{In}
use Rattle.rules.proofs.SortSame.{Child}
use Rattle.rules.proofs.SetsSteady.{Upward}

in_front : (c : ℕ) (ns ms : List ℕ) → In c ns → In c (ns ++ ms)
in_front c [] ms i = absurd i
in_front c (n ∷ ns) ms (inl e) = inl e
in_front c (n ∷ ns) ms (inr i) = inr (in_front c ns ms i)

module _ (t : List ℕ) (ok : Passed t) where
  abbrev lk : Linked t
  lk = ok.linking

  -- the siblings of a chain have one parent
  chain_parent : (c n : ℕ) → IsNode t n → In c (chain t n) → parent t c ≡ parent t n
  chain_parent c = backwards t lk (λ n. In c (chain t n) → parent t c ≡ parent t n)
      (λ n i f k. go n i f (subst (In c) (chain_some t lk n i) k))
    where
      go : (n : ℕ) → IsNode t n → ((m : ℕ) → n < m → m ≤ nodes t → In c (chain t m) → parent t c ≡ parent t m)
          → (c ≡ n) ⊎ In c (chain t (next t n)) → parent t c ≡ parent t n
      go n i f (inl e) = ap (parent t) e
      go n i f (inr k) = on (ℕ_discrete (next t n) 0)
        where
          on : Dec (next t n ≡ 0) → parent t c ≡ parent t n
          on (yes z) = absurd (subst (In c) (ap (chain t) z ∙ chain_none t lk) k)
          on (no z) = let l = (link t lk n i).next_on z in f (next t n) l.0 l.1 k ∙ parent_next t lk n i z

  kids_parent : (n c : ℕ) → IsNode t n → In c (chain t (first t n)) → parent t c ≡ n
  kids_parent n c i k = go (ℕ_discrete (first t n) 0)
    where
      go : Dec (first t n ≡ 0) → parent t c ≡ n
      go (yes z) = absurd (subst (In c) (ap (chain t) z ∙ chain_none t lk) k)
      go (no z) =
          let l = (link t lk n i).first_on z in
          chain_parent c (first t n) (omega (arith, l.0), l.1) k ∙ parent_first t lk n i z

  child_parent : (n c : ℕ) → IsNode t n → Child c (expr_at t n) → parent t c ≡ n
  child_parent n c i k = go (node_case t ok n i)
    where
      as_kids : In c (roots (exprs_at t (first t n))) → parent t c ≡ n
      as_kids = unfold children in (λ j. kids_parent n c i (subst (In c) (roots_kids t ok n i) j))

      some_first : IsNode t (first t n) → first t n ≡ 0 → ⊥
      some_first a z = omega (arith, a.0, z)

      at_first : IsNode t (first t n) → parent t (first t n) ≡ n
      at_first a = parent_first t lk n i (some_first a)

      -- an if's three, a let's two kinds
      three : IsNode t (first t n) → IsNode t (then_at t n) → IsNode t (else_at t n)
          → (c ≡ id (expr_at t (first t n))) ⊎ (c ≡ id (expr_at t (then_at t n))) ⊎ (c ≡ id (expr_at t (else_at t n))) → parent t c ≡ n
      three a b d (inl e) = ap (parent t) (e ∙ id_at t ok (first t n) a) ∙ at_first a
      three a b d (inr (inl e)) =
          ap (parent t) (e ∙ id_at t ok (then_at t n) b) ∙ parent_next t lk (first t n) a (λ z. omega (arith, b.0, z)) ∙ at_first a
      three a b d (inr (inr e)) =
          ap (parent t) (e ∙ id_at t ok (else_at t n) d) ∙ parent_next t lk (then_at t n) b (λ z. omega (arith, d.0, z))
          ∙ parent_next t lk (first t n) a (λ z. omega (arith, b.0, z)) ∙ at_first a

      two : IsNode t (first t n) → Final t ok (first t n) → In c (roots (defs_at t (first t n))) ⊎ (c ≡ id (final_at t (first t n)))
          → parent t c ≡ n
      two a f (inl j) = kids_parent n c i (subst (In c) (sym f.list) (in_front c (roots (defs_at t (first t n))) (f.at ∷ []) j))
      two a f (inr e) = ap (parent t) (e ∙ ap id f.is ∙ id_at t ok f.at f.node) ∙ f.sibling ∙ at_first a

      go : NodeCase t n → parent t c ≡ n
      go (is_const q z e) = absurd (subst (Child c) e k)
      go (is_param q z l e) = absurd (subst (Child c) e k)
      go (is_prim q l e) = as_kids (subst (Child c) e k)
      go (is_call_lem q l h w e) = as_kids (subst (Child c) e k)
      go (is_self q w l h e) = as_kids (subst (Child c) e k)
      go (is_cond q a b d z e) = three a b d (subst (Child c) e k)
      go (is_bind q a b l e) = two a (final t ok (first t n) a) (subst (Child c) e k)
      go (is_bound q z l e) = absurd (subst (Child c) e k)

  upward : Upward (functions t) (nodes t) (body_of t) (expr_at t) (owner t) (parent t)
  upward = record {
    child = λ m c i k. child_parent m c i k;
    root = λ f i. ap (parent t) (id_body t ok f i) ∙ parent_root t lk f i;
    top = λ n i z. id_body t ok (owner t n) (owner_in t lk n i) ∙ top_root t ok n i z;
  }

pub parents : (t : List ℕ) (F N : ℕ) → check_of t ≡ accepted F N
    → Upward (functions t) (nodes t) (body_of t) (expr_at t) (owner t) (parent t)
parents t F N e = upward t (passed t F N e).0
