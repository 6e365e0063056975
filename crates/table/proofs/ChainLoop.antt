-- counting siblings, and looking upwards for a let's body
use Prim.Native.Nat.{ℕ, zero, suc, ◌+◌, ◌-◌, ◌≤◌, ◌<◌}
use mathlib.Core.Bool.{Bool, true, false, ◌||◌}
use mathlib.Core.Path.{◌≡◌, refl, sym, ap, ◌∙◌}
use mathlib.Core.Logic.{◌⊎◌, inl, inr}
use mathlib.Core.List.{List}
use native.Mathlib.Omega.{arith}
use native.Mathlib.Decide.{ℕ_discrete}
use lib.Dec.{eqb}
use lib.ListN.{length}
use borrow.Author.Tests.{eq-eqb, ne_eqb}
use Rattle.table.specs.Pick.{pick}
use Rattle.table.specs.Bytes.{nodes, kind, first, next}
use Rattle.table.specs.Naming.{namer, parent, chain, under_last, definiens, in_scope}
use Rattle.table.specs.Working.{IsNode, Linked}
use Rattle.table.proofs.Links.{link, namer_names}
use Rattle.table.proofs.Family.{parent_lower, parent_top}
use Rattle.table.proofs.Tree.{chain_none, chain_some}
use Rattle.table.proofs.Scopes.{under_step, under_zero}

-- what is left of a chain
abbrev pub rest : List ℕ → ℕ → ℕ
rest t at = pick (eqb at 0) 0 (nodes t + 1 - at)

-- `count` siblings from c on are counted, and `at` comes next
pub record ChainTo (t : List ℕ) (c at count : ℕ) : Type 0 where
  pub inside : at ≤ nodes t
  pub few : (at ≡ 0 → ⊥) → count < at
  pub sum : count + length (chain t at) ≡ length (chain t c)

pub chain_start : (t : List ℕ) (c : ℕ) → c ≤ nodes t → ChainTo t c c 0
chain_start t c i = record { inside = i; few = λ z. omega arith; sum = omega arith }

module _ (t : List ℕ) (lk : Linked t) (c at count : ℕ) (h : ChainTo t c at count) where
  pub chain_end : at ≡ 0 → count ≡ length (chain t c)
  chain_end z = let e = ap length (ap (chain t) z ∙ chain_none t lk) in omega (arith, e, h.sum)

  module _ (some : at ≡ 0 → ⊥) (on : ℕ) (e : on ≡ next t at) where
    node : IsNode t at
    node = (omega arith, h.inside)

    further : (on ≡ 0 → ⊥) → (at < on) × (on ≤ nodes t)
    further z = let l = (link t lk at node).next_on (λ q. z (e ∙ q)) in (omega (arith, l.0, e), omega (arith, l.1, e))

    inside : on ≤ nodes t
    inside = go (ℕ_discrete on 0)
      where
        go : Dec (on ≡ 0) → on ≤ nodes t
        go (yes z) = omega arith
        go (no z) = (further z).1

    pub chain_next : ChainTo t c on (count + 1)
    chain_next = record {
      inside = inside;
      few = λ z. omega (arith, (further z).0, h.few some);
      sum = let q = ap length (chain_some t lk at node) in let r = ap (λ x. length (chain t x)) e in omega (arith, q, r, h.sum);
    }

    pub chain_falls : rest t on < rest t at
    chain_falls = rw (ne_eqb at 0 some) (go (ℕ_discrete on 0))
      where
        go : Dec (on ≡ 0) → rest t on < nodes t + 1 - at
        go (yes z) = rw (eq-eqb on 0 z) (omega (arith, h.inside))
        go (no z) = rw (ne_eqb on 0 z) (omega (arith, (further z).0, h.inside))

-- above p nothing is under p's last child
module _ (t : List ℕ) (p : ℕ) (low : 1 ≤ p) where
  none_above : (k a : ℕ) → a ≤ k → a ≤ p → under_last t p a ≡ false
  none_above zero a h i = let z : a ≡ 0 = omega arith in ap (under_last t p) z ∙ under_zero t p
  none_above (suc k) a h i = go (ℕ_discrete a 0) (λ b x y. none_above k b x y)
    where
      go : Dec (a ≡ 0) → ((b : ℕ) → b ≤ k → b ≤ p → under_last t p b ≡ false) → under_last t p a ≡ false
      go (yes z) f = ap (under_last t p) z ∙ under_zero t p
      go (no z) f =
          let l = parent_lower t a (omega arith) in
          under_step t p a (omega arith) ∙ rw (ne_eqb (parent t a) p (λ q. omega (arith, q, l)))
          (f (parent t a) (omega arith) (omega arith))

  pub under_none : (a : ℕ) → a ≤ p → under_last t p a ≡ false
  under_none a i = none_above a a (omega arith) i

  -- a child of p: under its last child exactly if it is the last
  pub under_child : (a : ℕ) → 1 ≤ a → parent t a ≡ p → under_last t p a ≡ eqb (next t a) 0
  under_child a i e =
      under_step t p a i ∙ rw (eq-eqb (parent t a) p e, under_none (parent t a) (omega (arith, e))) (or_no (eqb (next t a) 0))
    where
      or_no : (b : Bool) → (b || false) ≡ b
      or_no true = refl
      or_no false = refl

  -- any other node: as its parent is
  pub under_up : (a : ℕ) → 1 ≤ a → (parent t a ≡ p → ⊥) → under_last t p a ≡ under_last t p (parent t a)
  under_up a i d = under_step t p a i ∙ rw (ne_eqb (parent t a) p d)

-- a number past the nodes has no parent
pub parent_past : (t : List ℕ) → Linked t → (d : ℕ) → nodes t < d → parent t d ≡ 0
parent_past t lk d l = parent_top t d (omega arith) (go (ℕ_discrete (namer t d) 0))
  where
    named : (m : ℕ) → IsNode t m → (first t m ≡ d) ⊎ (next t m ≡ d) → ⊥
    named m i (inl e) = omega (arith, e, ((link t lk m i).first_on (λ z. omega (arith, z, e))).1)
    named m i (inr e) = omega (arith, e, ((link t lk m i).next_on (λ z. omega (arith, z, e))).1)

    go : Dec (namer t d ≡ 0) → namer t d ≡ 0
    go (yes z) = z
    go (no z) = let h = namer_names t d z in absurd (named (namer t d) h.0 h.2)

-- whether d is in scope at n, by d's parent p
module _ (t : List ℕ) (d n p : ℕ) (e : p ≡ parent t d) where
  pub scope_root : p ≡ 0 → in_scope t d n ≡ false
  unfolding in_scope definiens
  scope_root z = rw (eq-eqb (parent t d) 0 (sym e ∙ z))

  pub scope_kind : (p ≡ 0 → ⊥) → (kind t p ≡ 6 → ⊥) → in_scope t d n ≡ false
  unfolding in_scope definiens
  scope_kind z k = rw (← e, ne_eqb p 0 z, ne_eqb (kind t p) 6 k)

  pub scope_last : (p ≡ 0 → ⊥) → kind t p ≡ 6 → next t d ≡ 0 → in_scope t d n ≡ false
  unfolding in_scope definiens
  scope_last z k x = rw (← e, ne_eqb p 0 z, eq-eqb (kind t p) 6 k, eq-eqb (next t d) 0 x)

  pub scope_let : (p ≡ 0 → ⊥) → kind t p ≡ 6 → (next t d ≡ 0 → ⊥) → in_scope t d n ≡ under_last t p n
  unfolding in_scope definiens
  scope_let z k x = rw (← e, ne_eqb p 0 z, eq-eqb (kind t p) 6 k, ne_eqb (next t d) 0 x)
