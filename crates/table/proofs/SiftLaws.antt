-- what a node hands down: whether its children are in tail position, and what is around them
use Prim.Native.Nat.{ℕ, zero, suc, ◌+◌, ◌-◌, ◌*◌, ◌/◌, ◌%◌, ◌^◌, ◌≤◌, ◌<◌}
use mathlib.Core.Bool.{Bool, true, false, ◌&&◌, ◌||◌, not}
use mathlib.Core.Path.{◌≡◌, refl, sym, ap, ◌∙◌}
use mathlib.Core.List.{List}
use native.Mathlib.Omega.{arith}
use native.Mathlib.Decide.{ℕ_discrete}
use lib.Dec.{T, eqb, leb, leb→le}
use lib.ListN.{length}
use borrow.Author.Tests.{eq-eqb, ne_eqb, le-leb, lt-leb}
use Rattle.table.specs.Pick.{pick}
use Rattle.table.specs.Find.{one, back, back_by}
use Rattle.table.specs.Bytes.{kind, extra, word, params, width, first, next}
use Rattle.table.specs.Naming.{namer, owner, parent, tail_child, tail, chain, children}
use Rattle.table.specs.Check.{counts_of, counted}
use Rattle.table.specs.Working.{IsNode, Framed, Linked}
use Rattle.table.specs.Sweep.{rank, around, tail_reach, tail_from, is_let, down_of, KindFits, Wants}
use Rattle.table.proofs.CountLaws.{counts_by}
use Rattle.table.proofs.FindLaws.{both, back_step}
use Rattle.table.proofs.Tests.{and_no, and_yes}
use Rattle.table.proofs.Links.{first_named}
use Rattle.table.proofs.Family.{parent_lower, parent_top, parent_down, parent_node, tail_top, tail_down}
use Rattle.table.proofs.Tree.{chain_none, chain_some}
use Rattle.table.proofs.HandLaws.{rank_step, rank_small}
use Rattle.table.proofs.RuleLaws.{one_most}

module _ (t : List ℕ) where
  pub around_step : (n : ℕ) → 1 ≤ n → around t n
      ≡ pick (eqb (kind t (parent t n)) 6 && eqb (next t n) 0) (parent t n) (around t (parent t n))
  unfolding around
  around_step = back_step (parent t) (λ n r. pick (eqb (kind t (parent t n)) 6 && eqb (next t n) 0) (parent t n) r) 0 (parent_lower t)

  pub around_none : around t 0 ≡ 0
  unfolding around back back_by
  around_none = refl

  around_below : (k n : ℕ) → n ≤ k → 1 ≤ n → around t n < n
  around_below zero n h i = absurd (omega arith)
  around_below (suc k) n h i = go (eqb (kind t p) 6 && eqb (next t n) 0) (around_step n i) (parent_lower t n i) (ℕ_discrete p 0)
      (λ j. around_below k p (omega (arith, parent_lower t n i)) j)
    where
      p : ℕ
      p = parent t n

      go : (b : Bool) → around t n ≡ pick b p (around t p) → p < n → Dec (p ≡ 0) → (1 ≤ p → around t p < p) → around t n < n
      go true e l d f = omega arith
      go false e l (yes z) f = omega (arith, ap (around t) z, around_none)
      go false e l (no z) f = omega (arith, f (omega arith))

  pub around_lower : (n : ℕ) → 1 ≤ n → around t n < n
  around_lower n i = around_below n n (omega arith) i

  pub around_most : (n : ℕ) → around t n ≤ n
  around_most n = go (ℕ_discrete n 0)
    where
      go : Dec (n ≡ 0) → around t n ≤ n
      go (yes z) = omega (arith, ap (around t) z, around_none)
      go (no z) = omega (arith, around_lower n (omega arith))

  -- what is around a child, from what its parent handed down
  pub scope_told : (n o p e l : ℕ) → 1 ≤ n → o ≡ around t (parent t n) → p ≡ parent t n → e ≡ one (eqb (next t n) 0)
      → l ≡ one (is_let t (parent t n)) → o * (1 - e * l) + p * (e * l) ≡ around t n
  scope_told n o p e l i eo ep ee el = rw (ee, el) (go (ℕ_discrete (parent t n) 0))
    where
      most : o ≤ p
      most = omega (arith, eo, ep, around_most (parent t n))

      by : (a b : Bool) → around t n ≡ pick (a && b) (parent t n) (around t (parent t n))
          → o * (1 - one b * one a) + p * (one b * one a) ≡ around t n
      by true true q = omega (arith, q, ep)
      by true false q = omega (arith, q, eo)
      by false true q = omega (arith, q, eo)
      by false false q = omega (arith, q, eo)

      go : Dec (parent t n ≡ 0)
          → o * (1 - one (eqb (next t n) 0) * one (is_let t (parent t n))) + p * (one (eqb (next t n) 0) * one (is_let t (parent t n)))
          ≡ around t n
      go (yes z) = rw (eq-eqb (parent t n) 0 z) (by false (eqb (next t n) 0) (top (eqb (kind t (parent t n)) 6 && eqb (next t n) 0)
          (around_step n i)))
        where
          top : (b : Bool) → around t n ≡ pick b (parent t n) (around t (parent t n)) → around t n ≡ around t (parent t n)
          top true q = omega (arith, q, z, most, eo, ep)
          top false q = q
      go (no z) = rw (ne_eqb (parent t n) 0 z) (by (eqb (kind t (parent t n)) 6) (eqb (next t n) 0) (around_step n i))

  -- what a node hands down, by its kind, what is around it and whether it is in tail position
  pub down_told : (n s k q : ℕ) → 1 ≤ n → s ≡ around t n → k ≡ kind t n → q ≡ one (tail t n)
      → s + 1024 * (2 * tail_reach k + one (eqb k 6) + 4096 - 4096 * q) ≡ down_of t n
  unfolding down_of tail_from
  down_told n s k q i es ek eq = rw (es, ek, eq, ne_eqb n 0 (λ z. omega (arith, z, i)))
      (go (around t n) (tail_reach (kind t n)) (one (eqb (kind t n) 6)) (tail t n))
    where
      go : (s r l : ℕ) (b : Bool) → s + 1024 * (2 * r + l + 4096 - 4096 * one b) ≡ s + 1024 * l + 2048 * (r + pick b 0 2048)
      go s r l true = omega arith
      go s r l false = omega arith

  rank_some : (n : ℕ) → 1 ≤ n → 1 ≤ rank t n
  rank_some n i = go (eqb (namer t n) 0) (eqb (first t (namer t n)) n) (rank_step t n i)
    where
      go : (a b : Bool) → rank t n ≡ pick a 1 (pick b 1 (rank t (namer t n) + 1)) → 1 ≤ rank t n
      go true b e = omega arith
      go false true e = omega arith
      go false false e = omega arith

-- what is told from the number that n hands down
module _ (t : List ℕ) (n : ℕ) (small : n ≤ 512) (w : ℕ) (e : w ≡ down_of t n) where
  pub down_around : w % 1024 ≡ around t n
  unfolding down_of
  down_around = omega (arith, e, around_most t n, one_most (is_let t n))

  pub down_let : w / 1024 % 2 ≡ one (is_let t n)
  unfolding down_of
  down_let = omega (arith, e, around_most t n, one_most (is_let t n))

  pub down_from : w / 2048 ≡ tail_from t n
  unfolding down_of
  down_from = omega (arith, e, around_most t n, one_most (is_let t n))

pub down_none : (t : List ℕ) → down_of t 0 ≡ 0
unfolding down_of tail_from
down_none t = omega (arith, around_none t)

-- a child is in tail position where its rank reaches its parent's number
module _ (t : List ℕ) (fr : Framed t) (lk : Linked t) (n : ℕ) (i : IsNode t n) where
  abbrev p : ℕ
  p = parent t n

  abbrev reach : ℕ
  reach = rank t n + 1024 * one (eqb (next t n) 0)

  -- first or later
  first_rank : first t p ≡ n → (p ≡ 0 → ⊥) → rank t n ≡ 1
  first_rank e z =
      let q = parent_node t lk n i z in
      let m = sym (ap (namer t) e) ∙ first_named t lk p q (λ y. omega (arith, y, e, i.0)) in
      let s = rank_step t n i.0 in
      rw (m, ne_eqb p 0 z, eq-eqb (first t p) n e) at s

  later_rank : (first t p ≡ n → ⊥) → (p ≡ 0 → ⊥) → 2 ≤ rank t n
  later_rank e z = go (ℕ_discrete (namer t n) 0)
    where
      go : Dec (namer t n ≡ 0) → 2 ≤ rank t n
      go (yes y) = absurd (z (parent_top t n i.0 y))
      go (no y) =
          let q = namer t n in
          let s = rank_step t n i.0 in
          let d : first t q ≡ n → ⊥ = λ x. e (ap (first t) (parent_down t n i.0 q (omega arith) refl x) ∙ x) in
          omega (arith, rw (ne_eqb q 0 y, ne_eqb (first t q) n d) at s, rank_some t q (omega arith))

  -- a first child that is the last is an only one
  only : first t p ≡ n → next t n ≡ 0 → length (children t p) ≡ 1
  unfolding children
  only e z =
      let a = ap (λ c. length (chain t c)) e in
      let b = ap length (chain_some t lk n i) in
      let c = ap (λ c. length (chain t c)) z in
      let d = ap length (chain_none t lk) in
      omega (arith, a, b, c, d)

  small : rank t n ≤ 512
  small = omega (arith, rank_small t n n (omega arith) i.0, i.1, fr.n_high)

  far : reach ≤ 1536
  far = by (eqb (next t n) 0)
    where
      by : (b : Bool) → rank t n + 1024 * one b ≤ 1536
      by true = omega (arith, small)
      by false = omega (arith, small)

  three : T (counted t p) → kind t p ≡ 5 → 3 ≤ length (children t p)
  unfolding counted counts_of
  three c e = let l = length (children t p) in leb→le 3 l (both (leb 3 l) (leb l 3) (rw e at c)).0

  child_told : (p ≡ 0 → ⊥) → T (counted t p) → leb (tail_reach (kind t p)) reach ≡ tail_child t p n
  unfolding tail_child counted
  child_told z c = go (ℕ_discrete (kind t p) 5) (ℕ_discrete (kind t p) 6) (ℕ_discrete (next t n) 0)
    where
      go : Dec (kind t p ≡ 5) → Dec (kind t p ≡ 6) → Dec (next t n ≡ 0) → leb (tail_reach (kind t p)) reach
          ≡ ((eqb (kind t p) 5 && not (eqb (first t p) n)) || (eqb (kind t p) 6 && eqb (next t n) 0))
      go (yes a) b d = rw (eq-eqb (kind t p) 5 a, six) (branch (ℕ_discrete (first t p) n) d)
        where
          six : eqb (kind t p) 6 ≡ false
          six = ne_eqb (kind t p) 6 (λ y. omega (arith, a, y))

          branch : Dec (first t p ≡ n) → Dec (next t n ≡ 0) → leb 2 reach ≡ not (eqb (first t p) n) || false
          branch (yes f) (yes d) = absurd (omega (arith, three c a, only f d))
          branch (yes f) (no d) = rw (eq-eqb (first t p) n f, ne_eqb (next t n) 0 d) (lt-leb 2 (rank t n + 0) (omega
              (arith, first_rank f z)))
          branch (no f) d = rw (ne_eqb (first t p) n f) (le-leb 2 reach (omega (arith, later_rank f z)))
      go (no a) (yes b) (yes d) = rw (ne_eqb (kind t p) 5 a, eq-eqb (kind t p) 6 b, eq-eqb (next t n) 0 d)
          (le-leb 1025 (rank t n + 1024) (omega (arith, rank_some t n i.0)))
      go (no a) (yes b) (no d) = rw (ne_eqb (kind t p) 5 a, eq-eqb (kind t p) 6 b, ne_eqb (next t n) 0 d)
          (lt-leb 1025 (rank t n + 0) (omega (arith, small)))
      go (no a) (no b) d = rw (ne_eqb (kind t p) 5 a, ne_eqb (kind t p) 6 b) (lt-leb 2048 reach (omega (arith, far)))

  pub tail_told : ((m : ℕ) → IsNode t m → T (counted t m)) → one (leb (tail_from t p) reach) ≡ one (tail t n)
  unfolding tail_from
  tail_told c = ap one (go (ℕ_discrete p 0))
    where
      go : Dec (p ≡ 0) → leb (tail_from t p) reach ≡ tail t n
      go (yes z) = ap (λ b. leb (pick b 0 (tail_reach (kind t p) + pick (tail t p) 0 2048)) reach) (eq-eqb p 0 z)
          ∙ le-leb 0 reach (omega arith) ∙ sym (tail_top t n i.0 z)
      go (no z) = ap (λ b. leb (pick b 0 (tail_reach (kind t p) + pick (tail t p) 0 2048)) reach) (ne_eqb p 0 z)
          ∙ by (tail t p) ∙ sym (tail_down t n i.0 z)
        where
          by : (b : Bool) → leb (tail_reach (kind t p) + pick b 0 2048) reach ≡ (tail_child t p n && b)
          by true = ap (λ x. leb x reach) (omega arith) ∙ child_told z (c p (parent_node t lk n i z)) ∙ sym (and_yes (tail_child t p n))
          by false = lt-leb _ reach (omega (arith, far)) ∙ sym (and_no (tail_child t p n))

-- how many children a node may have, from what was read of it and of its callee
pub wants_here : (t : List ℕ) (n k e w a r : ℕ) → k ≡ kind t n → e ≡ extra t n → w ≡ word t n → (k ≡ 4 → a ≡ params t w)
    → (r % 256 ≡ (counts_of k e a).low) × (r / 256 ≡ (counts_of k e a).high) → Wants t n r
wants_here t n k e w a r ek ee ew ea h =
    let same : counts_of k e a ≡ counts_of (kind t n) (extra t n) (params t (word t n)) =
    counts_by k e a (params t w) ea ∙ rw (ek, ee, ew) in
    record { low = h.0 ∙ ap (λ c. c.low) same; high = h.1 ∙ ap (λ c. c.high) same }

-- 7, from the number of its children
pub counted_by : (t : List ℕ) (n w j : ℕ) → Wants t n w → j ≡ length (children t n) → w % 256 ≤ j → j ≤ w / 256 → T (counted t n)
unfolding counted
counted_by t n w j h e a b =
    let c = counts_of (kind t n) (extra t n) (params t (word t n)) in
    let l = length (children t n) in
    rw (le-leb c.low l (omega (arith, h.low, e)), le-leb l c.high (omega (arith, h.high, e))) tt

-- and the rest of 5 to 9, and 25
pub fits_here : (t : List ℕ) (n k e w o p m q : ℕ) → k ≡ kind t n → e ≡ extra t n → w ≡ word t n → o ≡ owner t n → p ≡ params t o
    → m ≡ 2 ^ width t o → KindFits k e w o p m q
    → KindFits (kind t n) (extra t n) (word t n) (owner t n) (params t (owner t n)) (2 ^ width t (owner t n)) q
fits_here t n k e w o p m q ek ee ew eo ep em f = rw (sym ek, sym ee, sym ew, sym eo, sym ep, sym em) f
