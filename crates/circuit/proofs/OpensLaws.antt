-- the children that a node opens: the first is one, all are above it, and every node is a child of its parent
use Rattle.std.proofs.Common.{◌≡◌, ℕ, ◌<◌, ◌≤◌, ◌⊎◌, List, [], ◌∷◌, sym, refl, ap, ◌∙◌, subst, inl, inr, arith, ne_eqb}
use native.Mathlib.Decide.{ℕ_discrete}
use Rattle.table.specs.Bytes.{nodes, kind, first, next}
use Rattle.table.specs.Naming.{parent, chain, children, initial}
use Rattle.table.specs.Expressions.{then_at}
use Rattle.table.specs.Working.{Taken, IsNode, Linked}
use Rattle.table.proofs.Links.{link, named, backwards}
use Rattle.table.proofs.Family.{parent_root, parent_first, parent_next, first_node}
use Rattle.table.proofs.Tree.{chain_none, chain_some}
use Rattle.table.proofs.NodeCases.{NodeCase, node_case}
use Rattle.table.proofs.NodeCases.{is_const, is_param, is_prim, is_call_lem, is_self, is_cond, is_bind, is_bound}
use Rattle.rules.specs.State.{In}
use Rattle.circuit.specs.Working.{opens}
use Rattle.circuit.proofs.ChainLaws.{ok}
use Rattle.circuit.proofs.ActBy.{three_in}

initial_in : (m : ℕ) (l : List ℕ) → In m (initial l) → In m l
unfolding initial
initial_in m [] i = i
initial_in m (a ∷ []) i = absurd i
initial_in m (a ∷ (b ∷ l)) (inl e) = inl e
initial_in m (a ∷ (b ∷ l)) (inr i) = inr (initial_in m (b ∷ l) i)

module _ (t : List ℕ) (fair : Taken t) where
  abbrev lk : Linked t
  lk = (ok t fair).linking

  -- the siblings from n on are children of its parent
  in_chain : (u n : ℕ) → IsNode t n → (parent t n ≡ 0 → ⊥) → In u (chain t n) → In u (chain t (first t (parent t n)))
  in_chain u = named t lk (λ n. (parent t n ≡ 0 → ⊥) → In u (chain t n) → In u (chain t (first t (parent t n))))
      (λ f i z s. absurd (z (parent_root t lk f i)))
      (λ n i z h x s. subst (λ m. In u (chain t (first t m))) (sym (parent_first t lk n i z)) s)
      (λ n i z h x s. subst (λ m. In u (chain t (first t m))) (sym (parent_next t lk n i z))
      (h (λ y. x (parent_next t lk n i z ∙ y)) (subst (In u) (sym (chain_some t lk n i)) (inr s))))

  pub child_in : (n : ℕ) → IsNode t n → (parent t n ≡ 0 → ⊥) → In n (children t (parent t n))
  unfolding children
  child_in n i z = in_chain n n i z (subst (In n) (sym (chain_some t lk n i)) (inl refl))

  chain_above : (m c : ℕ) → IsNode t c → In m (chain t c) → c ≤ m
  chain_above m = backwards t lk (λ c. In m (chain t c) → c ≤ m) (λ c i f k. go c i f (subst (In m) (chain_some t lk c i) k))
    where
      go : (c : ℕ) → IsNode t c → ((k : ℕ) → c < k → k ≤ nodes t → In m (chain t k) → k ≤ m) → (m ≡ c) ⊎ In m (chain t (next t c)) → c ≤ m
      go c i f (inl e) = omega (arith, e)
      go c i f (inr k) = on (ℕ_discrete (next t c) 0)
        where
          on : Dec (next t c ≡ 0) → c ≤ m
          on (yes z) = absurd (subst (In m) (ap (chain t) z ∙ chain_none t lk) k)
          on (no z) = let l = (link t lk c i).next_on z in omega (arith, l.0, f (next t c) l.0 l.1 k)

  module _ (n : ℕ) (i : IsNode t n) where
    children_above : (m : ℕ) → In m (children t n) → n < m
    unfolding children
    children_above m k = go (ℕ_discrete (first t n) 0)
      where
        go : Dec (first t n ≡ 0) → n < m
        go (yes z) = absurd (subst (In m) (ap (chain t) z ∙ chain_none t lk) k)
        go (no z) = let l = (link t lk n i).first_on z in omega (arith, l.0, chain_above m (first t n) (first_node t lk n i z) k)

    -- a let has a body
    body_in : kind t n ≡ 6 → IsNode t (then_at t n)
    body_in e = go (node_case t (ok t fair) n i)
      where
        other : {X : Type 0} (k : ℕ) → kind t n ≡ k → (k ≡ 6 → ⊥) → X
        other k q d = absurd (d (sym q ∙ e))

        go : NodeCase t n → IsNode t (then_at t n)
        go (is_const k z q) = other 1 k (λ x. omega arith)
        go (is_param k z l q) = other 2 k (λ x. omega arith)
        go (is_prim k c q) = other 3 k (λ x. omega arith)
        go (is_call_lem k l h c q) = other 4 k (λ x. omega arith)
        go (is_self k w l c q) = other 4 k (λ x. omega arith)
        go (is_cond k a b c z q) = b
        go (is_bind k a b c q) = b
        go (is_bound k z s q) = other 7 k (λ x. omega arith)

    first_of_two : (l : List ℕ) (a b : ℕ) (r : List ℕ) → l ≡ a ∷ (b ∷ r) → In a (initial l)
    unfolding initial
    first_of_two l a b r e = rw e (inl refl)

    -- by its kind
    pub opens_if : kind t n ≡ 5 → opens t n ≡ first t n ∷ []
    unfolding opens
    opens_if e = rw e refl

    pub opens_let : kind t n ≡ 6 → opens t n ≡ initial (children t n)
    unfolding opens
    opens_let e = rw e refl

    pub opens_all : (kind t n ≡ 5 → ⊥) → (kind t n ≡ 6 → ⊥) → opens t n ≡ children t n
    unfolding opens
    opens_all d e = rw (ne_eqb (kind t n) 5 d, ne_eqb (kind t n) 6 e) refl

    pub opens_first : (first t n ≡ 0 → ⊥) → In (first t n) (opens t n)
    opens_first z = go (ℕ_discrete (kind t n) 5) (ℕ_discrete (kind t n) 6)
      where
        f : IsNode t (first t n)
        f = first_node t lk n i z

        head : children t n ≡ first t n ∷ chain t (next t (first t n))
        head = unfold children in chain_some t lk (first t n) f

        go : Dec (kind t n ≡ 5) → Dec (kind t n ≡ 6) → In (first t n) (opens t n)
        go (yes e) d = subst (In (first t n)) (sym (opens_if e)) (inl refl)
        go (no d) (yes e) = subst (In (first t n)) (sym (opens_let e)) (first_of_two (children t n) _ _ _
            (head ∙ ap (λ l. first t n ∷ l) (chain_some t lk (then_at t n) (body_in e))))
        go (no d) (no e) = subst (In (first t n)) (sym (opens_all d e ∙ head)) (inl refl)

    opens_in : (m : ℕ) → In m (opens t n) → In m (children t n)
    opens_in m k = go (ℕ_discrete (kind t n) 5) (ℕ_discrete (kind t n) 6)
      where
        at_first : kind t n ≡ 5 → (m ≡ first t n) ⊎ ⊥ → In m (children t n)
        at_first e (inl q) = unfold children in
            subst (In m) (sym (chain_some t lk (first t n) (three_in t fair n i e).0)) (inl q)
        at_first e (inr z) = absurd z

        go : Dec (kind t n ≡ 5) → Dec (kind t n ≡ 6) → In m (children t n)
        go (yes e) d = at_first e (subst (In m) (opens_if e) k)
        go (no d) (yes e) = initial_in m (children t n) (subst (In m) (opens_let e) k)
        go (no d) (no e) = subst (In m) (opens_all d e) k

    pub opens_above : (m : ℕ) → In m (opens t n) → n < m
    opens_above m k = children_above m (opens_in m k)
