-- the expressions of an accepted table, link by link
use Prim.Native.Nat.{ℕ, zero, suc, ◌+◌, ◌≤◌, ◌<◌}
use mathlib.Core.Path.{◌≡◌, refl, subst, sym, ap, ◌∙◌}
use mathlib.Core.Logic.{◌⊎◌, inl, inr}
use mathlib.Core.List.{List, [], ◌∷◌}
use native.Mathlib.Omega.{arith}
use native.Mathlib.Decide.{ℕ_discrete}
use lib.ListN.{length}
use Rattle.table.specs.Syntax.{Exprs, none, some}
use Rattle.table.specs.Bytes.{nodes, first, next}
use Rattle.table.specs.Naming.{parent, chain_by, chain}
use Rattle.table.specs.Working.{IsNode, Linked}
use Rattle.table.proofs.Links.{link, backwards}
use Rattle.table.proofs.Family.{first_node, next_node, parent_first, parent_next}
use Rattle.table.specs.Expressions.{rest_of, node_of, exprs_by, exprs_at, expr_at, defs_at}

module _ (t : List ℕ) (lk : Linked t) where
  -- fuel k is enough at c
  abbrev Enough : ℕ → ℕ → Type 0
  Enough k c = (c ≡ 0 → ⊥) → (c ≤ nodes t) × (nodes t < c + k)

  to_first : (k c : ℕ) → Enough (suc k) (suc c) → Enough k (first t (suc c))
  to_first k c h z = let a = h (λ e. omega (arith, e)) in let l = (link t lk (suc c) (omega arith, a.0)).first_on z in
      (l.1, omega (arith, l.0, a.1))

  to_next : (k c : ℕ) → Enough (suc k) (suc c) → Enough k (next t (suc c))
  to_next k c h z = let a = h (λ e. omega (arith, e)) in let l = (link t lk (suc c) (omega arith, a.0)).next_on z in
      (l.1, omega (arith, l.0, a.1))

  never : {A : Type 0} (c : ℕ) → Enough zero (suc c) → A
  never c h = let a = h (λ e. omega (arith, e)) in absurd (omega (arith, a.0, a.1))

  exprs_fuel : (k j c : ℕ) → Enough k c → Enough j c → exprs_by t k c ≡ exprs_by t j c
  unfolding exprs_by
  exprs_fuel zero zero c x y = refl
  exprs_fuel zero (suc j) zero x y = refl
  exprs_fuel zero (suc j) (suc c) x y = never c x
  exprs_fuel (suc k) zero zero x y = refl
  exprs_fuel (suc k) zero (suc c) x y = never c y
  exprs_fuel (suc k) (suc j) zero x y = refl
  exprs_fuel (suc k) (suc j) (suc c) x y =
      let p = exprs_fuel k j (first t (suc c)) (to_first k c x) (to_first j c y) in
      let q = exprs_fuel k j (next t (suc c)) (to_next k c x) (to_next j c y) in
      λ z. some (node_of t (suc c) (p z)) (q z)

  chain_fuel : (k j c : ℕ) → Enough k c → Enough j c → chain_by t k c ≡ chain_by t j c
  unfolding chain_by
  chain_fuel zero zero c x y = refl
  chain_fuel zero (suc j) zero x y = refl
  chain_fuel zero (suc j) (suc c) x y = never c x
  chain_fuel (suc k) zero zero x y = refl
  chain_fuel (suc k) zero (suc c) x y = never c y
  chain_fuel (suc k) (suc j) zero x y = refl
  chain_fuel (suc k) (suc j) (suc c) x y = ap (λ l. suc c ∷ l) (chain_fuel k j (next t (suc c)) (to_next k c x) (to_next j c y))

  -- the table's own number of nodes is enough for what a node links to
  on_first : (k c : ℕ) → IsNode t c → nodes t ≡ k → Enough k (first t c)
  on_first k c i e z = let l = (link t lk c i).first_on z in (l.1, omega (arith, l.0, e))

  on_next : (k c : ℕ) → IsNode t c → nodes t ≡ k → Enough k (next t c)
  on_next k c i e z = let l = (link t lk c i).next_on z in (l.1, omega (arith, l.0, e))

  here : (k c : ℕ) → IsNode t (suc c) → nodes t ≡ suc k → Enough (suc k) (suc c)
  here k c i e z = (i.1, omega (arith, e))

  some_by : (k c : ℕ) → IsNode t c → nodes t ≡ k
      → exprs_by t k c ≡ some (node_of t c (exprs_by t (nodes t) (first t c))) (exprs_by t (nodes t) (next t c))
  unfolding exprs_by
  some_by zero c i e = absurd (omega arith)
  some_by (suc k) zero i e = absurd (omega arith)
  some_by (suc k) (suc c) i e =
      let p = exprs_fuel k (nodes t) (first t (suc c)) (to_first k c (here k c i e)) (on_first (nodes t) (suc c) i refl) in
      let q = exprs_fuel k (nodes t) (next t (suc c)) (to_next k c (here k c i e)) (on_next (nodes t) (suc c) i refl) in
      λ z. some (node_of t (suc c) (p z)) (q z)

  none_by : (k : ℕ) → exprs_by t k 0 ≡ none
  unfolding exprs_by
  none_by zero = refl
  none_by (suc k) = refl

  -- a chain ends at 0; before it, a node and what follows it
  pub exprs_none : exprs_at t 0 ≡ none
  unfolding exprs_at
  exprs_none = none_by (nodes t)

  pub exprs_some : (c : ℕ) → IsNode t c → exprs_at t c ≡ some (expr_at t c) (exprs_at t (next t c))
  unfolding exprs_at expr_at
  exprs_some c i = some_by (nodes t) c i refl

  link_by : (k c : ℕ) → IsNode t c → nodes t ≡ k → chain_by t k c ≡ c ∷ chain_by t (nodes t) (next t c)
  unfolding chain_by
  link_by zero c i e = absurd (omega arith)
  link_by (suc k) zero i e = absurd (omega arith)
  link_by (suc k) (suc c) i e =
      ap (λ l. suc c ∷ l) (chain_fuel k (nodes t) (next t (suc c)) (to_next k c (here k c i e)) (on_next (nodes t) (suc c) i refl))

  end_by : (k : ℕ) → chain_by t k 0 ≡ []
  unfolding chain_by
  end_by zero = refl
  end_by (suc k) = refl

  pub chain_none : chain t 0 ≡ []
  unfolding chain
  chain_none = end_by (nodes t)

  pub chain_some : (c : ℕ) → IsNode t c → chain t c ≡ c ∷ chain t (next t c)
  unfolding chain
  chain_some c i = link_by (nodes t) c i refl

  -- how many follow: one more than after the next
  pub more : (c j : ℕ) → (c ≡ 0) ⊎ IsNode t c → length (chain t c) ≡ suc j → IsNode t c × (length (chain t (next t c)) ≡ j)
  more c j (inl z) e = absurd (omega (arith, sym e ∙ ap (λ x. length (chain t x)) z ∙ ap length chain_none))
  more c j (inr i) e = (i, suc_same (sym (ap length (chain_some c i)) ∙ e))
    where
      suc_same : suc (length (chain t (next t c))) ≡ suc j → length (chain t (next t c)) ≡ j
      suc_same e = omega arith

  pub no_more : (c : ℕ) → (c ≡ 0) ⊎ IsNode t c → length (chain t c) ≡ 0 → c ≡ 0
  no_more c (inl z) e = z
  no_more c (inr i) e = absurd (omega (arith, sym e ∙ ap length (chain_some c i)))

  pub first_or : (n : ℕ) → IsNode t n → (first t n ≡ 0) ⊎ IsNode t (first t n)
  first_or n i = go (ℕ_discrete (first t n) 0)
    where
      go : Dec (first t n ≡ 0) → (first t n ≡ 0) ⊎ IsNode t (first t n)
      go (yes z) = inl z
      go (no z) = let l = (link t lk n i).first_on z in inr (omega (arith, l.0), l.1)

  pub next_or : (n : ℕ) → IsNode t n → (next t n ≡ 0) ⊎ IsNode t (next t n)
  next_or n i = go (ℕ_discrete (next t n) 0)
    where
      go : Dec (next t n ≡ 0) → (next t n ≡ 0) ⊎ IsNode t (next t n)
      go (yes z) = inl z
      go (no z) = inr (next_node t lk n i z)

  -- the definientia and the body of a let
  pub defs_none : (c : ℕ) → next t c ≡ 0 → defs_at t c ≡ none
  unfolding defs_at
  defs_none c z = ap (λ x. rest_of (expr_at t c) (exprs_at t x)) z ∙ ap (rest_of (expr_at t c)) exprs_none

  pub defs_some : (c : ℕ) → IsNode t (next t c) → defs_at t c ≡ some (expr_at t c) (defs_at t (next t c))
  unfolding defs_at
  defs_some c i = ap (rest_of (expr_at t c)) (exprs_some (next t c) i)

  -- what holds of an empty chain, and of a chain if it holds from the next node on, holds of a chain of siblings
  module _ (p : ℕ) (P : ℕ → Exprs → Type 0) (end : P 0 none)
      (step : (c : ℕ) → IsNode t c → parent t c ≡ p → P (next t c) (exprs_at t (next t c))
      → P c (some (expr_at t c) (exprs_at t (next t c)))) where
    at_none : (c : ℕ) → c ≡ 0 → P c (exprs_at t c)
    at_none c z = subst (λ x. P x (exprs_at t x)) (sym z) (subst (P 0) (sym exprs_none) end)

    pub along : (c : ℕ) → IsNode t c → parent t c ≡ p → P c (exprs_at t c)
    along = backwards t lk (λ c. parent t c ≡ p → P c (exprs_at t c)) (λ c i f e. go c i f e (ℕ_discrete (next t c) 0))
      where
        go : (c : ℕ) → IsNode t c → ((m : ℕ) → c < m → m ≤ nodes t → parent t m ≡ p → P m (exprs_at t m)) → parent t c ≡ p
            → Dec (next t c ≡ 0) → P c (exprs_at t c)
        go c i f e (yes z) = subst (P c) (sym (exprs_some c i)) (step c i e (at_none (next t c) z))
        go c i f e (no z) =
            let l = (link t lk c i).next_on z in
            subst (P c) (sym (exprs_some c i)) (step c i e (f (next t c) l.0 l.1 (parent_next t lk c i z ∙ e)))

    pub kids : (n : ℕ) → IsNode t n → n ≡ p → P (first t n) (exprs_at t (first t n))
    kids n i e = go (ℕ_discrete (first t n) 0)
      where
        go : Dec (first t n ≡ 0) → P (first t n) (exprs_at t (first t n))
        go (yes z) = at_none (first t n) z
        go (no z) = along (first t n) (first_node t lk n i z) (parent_first t lk n i z ∙ e)

  -- the same for definientia
  module _ (p : ℕ) (P : Exprs → Type 0) (end : P none)
      (step : (c : ℕ) → IsNode t c → parent t c ≡ p → (next t c ≡ 0 → ⊥) → P (defs_at t (next t c))
      → P (some (expr_at t c) (defs_at t (next t c)))) where
    pub defs_along : (c : ℕ) → IsNode t c → parent t c ≡ p → P (defs_at t c)
    defs_along = backwards t lk (λ c. parent t c ≡ p → P (defs_at t c)) (λ c i f e. go c i f e (ℕ_discrete (next t c) 0))
      where
        go : (c : ℕ) → IsNode t c → ((m : ℕ) → c < m → m ≤ nodes t → parent t m ≡ p → P (defs_at t m)) → parent t c ≡ p
            → Dec (next t c ≡ 0) → P (defs_at t c)
        go c i f e (yes z) = subst P (sym (defs_none c z)) end
        go c i f e (no z) =
            let l = (link t lk c i).next_on z in
            subst P (sym (defs_some c (next_node t lk c i z))) (step c i e z (f (next t c) l.0 l.1 (parent_next t lk c i z ∙ e)))
