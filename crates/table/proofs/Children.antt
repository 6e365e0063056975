-- the children of a node, as a list of numbers, are those of its expression
use Prim.Native.Nat.{ℕ, ◌≤◌, ◌<◌}
use mathlib.Core.Path.{◌≡◌, refl, sym, ap, ap₂, ◌∙◌}
use mathlib.Core.List.{List, [], ◌∷◌, ◌++◌, map}
use native.Mathlib.Omega.{arith}
use native.Mathlib.Decide.{ℕ_discrete}
use Rattle.table.specs.Environment.{values}
use Rattle.table.specs.Syntax.{Exprs, none, some, id, roots}
use Rattle.table.specs.Bytes.{nodes, first, next}
use Rattle.table.specs.Naming.{parent, chain, children}
use Rattle.table.specs.Working.{IsNode, Linked}
use Rattle.table.proofs.Passed.{Passed}
use Rattle.table.proofs.Family.{next_node, parent_next}
use Rattle.table.proofs.Links.{link, backwards}
use Rattle.table.specs.Expressions.{last_of, exprs_at, expr_at, defs_at, final_at}
use Rattle.table.proofs.Tree.{exprs_none, exprs_some, chain_none, chain_some, defs_none, defs_some, kids}
use Rattle.table.proofs.NodeCases.{id_at}

-- the values that a step reads
pub values_are : (value : ℕ → ℕ) (es : Exprs) → values value es ≡ map value (roots es)
values_are value none = refl
values_are value (some e es) = ap (λ l. value (id e) ∷ l) (values_are value es)

module _ (t : List ℕ) (ok : Passed t) where
  abbrev lk : Linked t
  lk = ok.linking

  pub roots_kids : (n : ℕ) → IsNode t n → roots (exprs_at t (first t n)) ≡ children t n
  unfolding children
  roots_kids n i = kids t lk n (λ c es. roots es ≡ chain t c) (sym (chain_none t lk))
      (λ c j e h. ap₂ (λ x xs. x ∷ xs) (id_at t ok c j) h ∙ sym (chain_some t lk c j)) n i refl

  -- of a let: the definientia, then the body
  pub record Final (c : ℕ) : Type 0 where
    pub at : ℕ
    pub node : IsNode t at
    pub above : c ≤ at
    pub sibling : parent t at ≡ parent t c
    pub ends : next t at ≡ 0
    pub is : final_at t c ≡ expr_at t at
    pub list : chain t c ≡ roots (defs_at t c) ++ (at ∷ [])

  pub final : (c : ℕ) → IsNode t c → Final c
  unfolding final_at
  final = backwards t lk Final (λ n i f. go n i f (ℕ_discrete (next t n) 0))
    where
      go : (n : ℕ) → IsNode t n → ((m : ℕ) → n < m → m ≤ nodes t → Final m) → Dec (next t n ≡ 0) → Final n
      go n i f (yes z) = record {
        at = n;
        node = i;
        above = omega arith;
        sibling = refl;
        ends = z;
        is = ap (λ x. last_of (expr_at t n) (exprs_at t x)) z ∙ ap (last_of (expr_at t n)) (exprs_none t lk);
        list = chain_some t lk n i ∙ ap (λ l. n ∷ l) (ap (chain t) z ∙ chain_none t lk)
            ∙ sym (ap (λ es. roots es ++ (n ∷ [])) (defs_none t lk n z));
      }
      go n i f (no z) =
          let l = (link t lk n i).next_on z in
          let j = next_node t lk n i z in
          let r = f (next t n) l.0 l.1 in
          record {
            at = r.at;
            node = r.node;
            above = omega (arith, r.above, l.0);
            sibling = r.sibling ∙ parent_next t lk n i z;
            ends = r.ends;
            is = ap (last_of (expr_at t n)) (exprs_some t lk (next t n) j) ∙ r.is;
            list = chain_some t lk n i ∙ ap₂ (λ x xs. x ∷ xs) (sym (id_at t ok n i)) r.list
                ∙ sym (ap (λ es. roots es ++ (r.at ∷ [])) (defs_some t lk n j));
          }
