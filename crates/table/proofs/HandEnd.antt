-- once all nodes have handed on: the table is linked, and kin and the numbers of children are those of the table
use Prim.Native.Nat.{ℕ, zero, suc, ◌+◌, ◌*◌, ◌%◌, ◌≤◌, ◌<◌}
use mathlib.Core.Bool.{Bool, true, false, ◌&&◌, ◌||◌}
use mathlib.Core.Path.{◌≡◌, refl, subst, sym, ap, ◌∙◌}
use mathlib.Core.Logic.{⊎_elim}
use mathlib.Core.List.{List}
use native.Mathlib.Omega.{arith}
use native.Mathlib.Decide.{ℕ_discrete}
use lib.Dec.{T, eqb, leb, eqb→eq, leb→le}
use lib.ListN.{length, get_or, set, replicate, length-set, length-replicate}
use lib.Seq.{get_or-set_same, get_or-set_other}
use borrow.Author.Tests.{eq-eqb, ne_eqb, lt-ltb, le-leb}
use Rattle.table.specs.Pick.{pick}
use Rattle.table.specs.Bytes.{functions, nodes, params, width_byte, root, first, next}
use Rattle.table.specs.Find.{highest}
use Rattle.table.specs.Naming.{mentions, root_of, namer, owner, parent, chain, children}
use Rattle.table.specs.Check.{root_fits, record_fits, forward, linked}
use Rattle.table.specs.Working.{IsNode, IsFunction, Framed, Linked}
use Rattle.table.specs.Sweep.{rank, mentions_to, Handed, hand, Links, RootFits, RootsFit, Kin, Kids}
use Rattle.table.proofs.FindLaws.{both, pair, orl, orr, same, highest_bound, highest_passes, highest_hit}
use Rattle.table.proofs.Passed.{in_range}
use Rattle.table.proofs.Loops.{highest_more, blank_at}
use Rattle.table.proofs.Links.{namer_names, namer_lower, link}
use Rattle.table.proofs.Family.{owner_top, owner_down, parent_top, parent_down, parent_along, parent_first, parent_next}
use Rattle.table.proofs.Family.{first_node, next_node}
use Rattle.table.proofs.Tree.{chain_none, chain_some}
use Rattle.table.proofs.HandLaws.{rank_step, root_some, kin_here}
use Rattle.table.proofs.HandSteps.{handed_link, still_named, next_on, first_on}

-- a function's record, from what was read of it
pub root_told : (t : List ℕ) (f r p s n : ℕ) → r ≡ root t f → p ≡ params t f → s ≡ width_byte t f → n ≡ next t r → 1 ≤ r → r ≤ nodes t
    → p ≤ 8 → s ≤ 32 → n ≡ 0 → RootFits t f
unfolding root_fits record_fits
root_told t f r p s n er ep es en a b c d e = record {
  inside = rw (sym er, le-leb 1 r a, le-leb r (nodes t) b) tt;
  fits = rw (sym ep, sym es, le-leb p 8 c, le-leb s 32 d) tt;
  ends = ap (next t) (sym er) ∙ sym en ∙ e;
}

pub params_few : (t : List ℕ) → RootsFit t (functions t) → (f : ℕ) → IsFunction t f → params t f ≤ 8
unfolding record_fits
params_few t rf f i = leb→le (params t f) 8 (both (leb (params t f) 8) (leb (width_byte t f) 32) (rf f i.0 i.1).fits).0

pub width_few : (t : List ℕ) → RootsFit t (functions t) → (f : ℕ) → IsFunction t f → width_byte t f ≤ 32
unfolding record_fits
width_few t rf f i = leb→le (width_byte t f) 32 (both (leb (params t f) 8) (leb (width_byte t f) 32) (rf f i.0 i.1).fits).1

-- a node's links, from what was read of it
pub links_told : (t kin : List ℕ) (n a b : ℕ) → a ≡ first t n → b ≡ next t n → (get_or kin n 0 ≡ 0 → ⊥) → a ≤ nodes t → b ≤ nodes t
    → get_or kin b 0 ≡ 0 → get_or (hand kin b (get_or kin n 0 + 65536)) a 0 ≡ 0
    → Links t n kin (hand (hand kin b (get_or kin n 0 + 65536)) a (get_or kin n 0 % 64 + 64 * n + 65536))
links_told t kin n a b ea eb z i j x y = record {
  named = z;
  next_in = rw (sym eb) j;
  first_in_lem = rw (sym ea) i;
  next_free = rw (sym eb) x;
  first_free = rw (sym ea, sym eb) y;
  made = rw (sym ea, sym eb);
}

-- the rank of the last child of p up to k, 0 if it has none
unfoldable pub last_rank : List ℕ → (k p : ℕ) → ℕ
last_rank t k p = let m = highest (λ m. eqb (parent t m) p) k in pick (eqb m 0) 0 (rank t m)

-- after the nodes up to k: kin handed on, forward alone, and the ranks that were left
pub record LinkedTo (t : List ℕ) (k : ℕ) (kin kids : List ℕ) : Type 0 where
  pub handed : Handed t (functions t) k kin
  pub named : (v : ℕ) → 1 ≤ v → v ≤ k → get_or kin v 0 ≡ 0 → ⊥
  pub owned : (v : ℕ) → 1 ≤ v → v ≤ k → 1 ≤ owner t v
  pub on : (v : ℕ) → 1 ≤ v → v ≤ k → T (forward t v (first t v)) × T (forward t v (next t v))
  pub size : length kids ≡ 513
  pub left : (p : ℕ) → IsNode t p → get_or kids p 0 ≡ last_rank t k p

pub linked_none : (t kin kids : List ℕ) → Handed t (functions t) 0 kin → kids ≡ replicate 513 0 → LinkedTo t 0 kin kids
unfolding last_rank highest
linked_none t kin kids h e = record {
  handed = h;
  named = λ v a b. absurd (omega arith);
  owned = λ v a b. absurd (omega arith);
  on = λ v a b. absurd (omega arith);
  size = ap length e ∙ length-replicate {A = ℕ} 513 0;
  left = λ p i. ap (λ x. get_or x p 0) e ∙ blank_at {A = ℕ} 513 p 0;
}

last_more : (t : List ℕ) (k p : ℕ) (b : Bool) → eqb (parent t (k + 1)) p ≡ b
    → last_rank t (k + 1) p ≡ pick b (rank t (k + 1)) (last_rank t k p)
unfolding last_rank
last_more t k p b e =
    ap of (highest_more (λ m. eqb (parent t m) p) k ∙ ap (λ x. pick x (k + 1) (highest (λ m. eqb (parent t m) p) k)) e) ∙ go b
  where
    of : ℕ → ℕ
    of m = pick (eqb m 0) 0 (rank t m)

    go : (b : Bool) → of (pick b (k + 1) (highest (λ m. eqb (parent t m) p) k))
        ≡ pick b (rank t (k + 1)) (of (highest (λ m. eqb (parent t m) p) k))
    go true = ap (λ x. pick x 0 (rank t (k + 1))) (ne_eqb (k + 1) 0 (λ e. omega arith))
    go false = refl

forward_by : (t : List ℕ) (n m : ℕ) → m ≤ nodes t → ((m ≡ 0 → ⊥) → n < m) → T (forward t n m)
unfolding forward
forward_by t n m b f = go (ℕ_discrete m 0)
  where
    go : Dec (m ≡ 0) → T (forward t n m)
    go (yes z) = rw (eq-eqb m 0 z) tt
    go (no z) = rw (ne_eqb m 0 z, lt-ltb n m (f z), le-leb m (nodes t) b) tt

module _ (t kin kin' kids : List ℕ) (fr : Framed t) (k : ℕ) (i : IsNode t (k + 1)) (h : LinkedTo t k kin kids)
    (l : Links t (k + 1) kin kin') where
  -- it is part of a function, as what names it is
  pub own_owned : 1 ≤ owner t (k + 1)
  own_owned = go (ℕ_discrete (namer t (k + 1)) 0)
    where
      go : Dec (namer t (k + 1) ≡ 0) → 1 ≤ owner t (k + 1)
      go (yes q) =
          let z = root_some t (k + 1) k i.0 (omega arith) (omega (arith, i.1)) (λ e. l.named (h.handed.told (k + 1) i ∙ e)) q in
          omega (arith, owner_top t (k + 1) i.0 q)
      go (no q) =
          let below = h.owned (namer t (k + 1)) (omega arith) (omega (arith, namer_lower t (k + 1) i.0)) in
          omega (arith, owner_down t (k + 1) i.0 (namer t (k + 1)) (omega arith) refl)

  pub linked_more : (u r : ℕ) → u ≡ parent t (k + 1) → r ≡ rank t (k + 1) → LinkedTo t (k + 1) kin' (set kids u r)
  linked_more u r eu er = record {
    handed = handed_link t kin kin' fr k i h.handed h.named l;
    named = still_named t kin kin' fr k i h.handed h.named l;
    owned = λ v a b. part v a b (ℕ_discrete v (k + 1));
    on = λ v a b. ahead v a b (ℕ_discrete v (k + 1));
    size = length-set kids u r ∙ h.size;
    left = λ p j. put p j (ℕ_discrete u p);
  }
    where
      part : (v : ℕ) → 1 ≤ v → v ≤ k + 1 → Dec (v ≡ k + 1) → 1 ≤ owner t v
      part v a b (yes e) = rw e own_owned
      part v a b (no e) = h.owned v a (omega arith)

      ahead : (v : ℕ) → 1 ≤ v → v ≤ k + 1 → Dec (v ≡ k + 1) → T (forward t v (first t v)) × T (forward t v (next t v))
      ahead v a b (yes e) = rw e (
        forward_by t (k + 1) (first t (k + 1)) l.first_in_lem (first_on t kin kin' fr k i h.handed h.named l),
        forward_by t (k + 1) (next t (k + 1)) l.next_in (next_on t kin kin' fr k i h.handed h.named l),
      )
      ahead v a b (no e) = h.on v a (omega arith)

      put : (p : ℕ) → IsNode t p → Dec (u ≡ p) → get_or (set kids u r) p 0 ≡ last_rank t (k + 1) p
      put p j (yes e) =
          ap (λ x. get_or (set kids x r) p 0) e ∙ get_or-set_same kids p r 0 (omega (arith, h.size, j.1, fr.n_high))
          ∙ er ∙ sym (last_more t k p true (eq-eqb (parent t (k + 1)) p (sym eu ∙ e)))
      put p j (no e) =
          get_or-set_other kids u p r 0 (λ q. e (sym q)) ∙ h.left p j
          ∙ sym (last_more t k p false (ne_eqb (parent t (k + 1)) p (λ q. e (eu ∙ q))))

-- no higher one passes
highest_top : (p : ℕ → Bool) (k i : ℕ) → i ≤ k → T (p i) → i ≤ highest p k
unfolding highest
highest_top p zero i b h = b
highest_top p (suc k) i b h = go (p (suc k)) refl (ℕ_discrete i (suc k)) (λ c. highest_top p k i c h)
  where
    go : (x : Bool) → p (suc k) ≡ x → Dec (i ≡ suc k) → (i ≤ k → i ≤ highest p k) → i ≤ pick x (suc k) (highest p k)
    go true e d f = b
    go false e (yes q) f = absurd (rw e at (rw q at h))
    go false e (no q) f = f (omega arith)

-- in a linked table a child's rank and the siblings after it make up its parent's children
module _ (t : List ℕ) (lk : Linked t) where
  rank_chain : (k m : ℕ) → m ≤ k → IsNode t m → (parent t m ≡ 0 → ⊥)
      → rank t m + length (chain t (next t m)) ≡ length (children t (parent t m))
  unfolding children
  rank_chain zero m b i z = absurd (omega (arith, i.0))
  rank_chain (suc k) m b i z = go (ℕ_discrete (namer t m) 0) (λ q c j y. rank_chain k q (omega arith) j y)
    where
      go : Dec (namer t m ≡ 0) → ((q : ℕ) → q < m → IsNode t q → (parent t q ≡ 0 → ⊥)
          → rank t q + length (chain t (next t q)) ≡ length (chain t (first t (parent t q))))
          → rank t m + length (chain t (next t m)) ≡ length (chain t (first t (parent t m)))
      go (yes e) f = absurd (z (parent_top t m i.0 e))
      go (no e) f = child (ℕ_discrete (first t q) m)
        where
          q : ℕ
          q = namer t m

          here : length (chain t m) ≡ 1 + length (chain t (next t m))
          here = ap length (chain_some t lk m i) ∙ omega arith

          child : Dec (first t q ≡ m) → rank t m + length (chain t (next t m)) ≡ length (chain t (first t (parent t m)))
          child (yes d) =
              let j = (namer_names t m e).0.0 in
              let r = rank_step t m i.0 in
              let p = ap (λ x. length (chain t (first t x))) (parent_down t m i.0 q j refl d) ∙ ap (λ x. length (chain t x)) d in
              omega (arith, p, here, rw (ne_eqb q 0 e, eq-eqb (first t q) m d) at r)
          child (no d) =
              let w = namer_names t m e in
              let j = w.0 in
              let r = rank_step t m i.0 in
              let up = parent_along t m i.0 q j.0 refl d in
              let on = ⊎_elim (λ x. absurd (d x)) (λ x. x) w.2 in
              let g = f q w.1 j (λ y. z (up ∙ y)) in
              let p = ap (λ x. length (chain t (first t x))) up in
              let c = ap (λ x. length (chain t x)) on in
              omega (arith, p, c, g, here, rw (ne_eqb q 0 e, ne_eqb (first t q) m d) at r)

  -- the last child's rank is their number
  pub last_rank_lem : (p : ℕ) → IsNode t p → last_rank t (nodes t) p ≡ length (children t p)
  unfolding last_rank children
  last_rank_lem p i = go (ℕ_discrete m 0)
    where
      m : ℕ
      m = highest (λ m. eqb (parent t m) p) (nodes t)

      none : length (chain t 0) ≡ 0
      none = ap length (chain_none t lk)

      go : Dec (m ≡ 0) → pick (eqb m 0) 0 (rank t m) ≡ length (chain t (first t p))
      go (yes z) = rw (eq-eqb m 0 z) (sym (ap (λ x. length (chain t x)) childless ∙ none))
        where
          childless : first t p ≡ 0
          childless = elim (ℕ_discrete (first t p) 0) [
            | yes e ↦ e
            | no e ↦ absurd (let j = first_node t lk p i e in
                highest_hit (λ m. eqb (parent t m) p) (nodes t) (first t p) j.0 j.1 (same _ p (parent_first t lk p i e)) z)
          ]
      go (no z) = rw (ne_eqb m 0 z) (whole (ℕ_discrete (next t m) 0))
        where
          node : IsNode t m
          node = (omega arith, highest_bound (λ m. eqb (parent t m) p) (nodes t))

          up : parent t m ≡ p
          up = eqb→eq (parent t m) p (highest_passes (λ m. eqb (parent t m) p) (nodes t) z)

          whole : Dec (next t m ≡ 0) → rank t m ≡ length (chain t (first t p))
          whole (yes e) =
              let r = rank_chain m m (omega arith) node (λ q. omega (arith, q, up, i.0)) in
              let c = ap (λ x. length (chain t x)) e in
              let d = ap (λ x. length (chain t (first t x))) up in
              omega (arith, r, c, d, none)
          whole (no e) = absurd (
              let j = next_node t lk m node e in
              let h = highest_top (λ m. eqb (parent t m) p) (nodes t) (next t m) j.1 (same _ p (parent_next t lk m node e ∙ up)) in
              omega (arith, h, ((link t lk m node).next_on e).0))

-- all nodes handed on
module _ (t kin kids : List ℕ) (h : LinkedTo t (nodes t) kin kids) (rf : RootsFit t (functions t)) where
  linking : Linked t
  unfolding linked mentions mentions_to root_fits root_of
  linking = record {
    roots = λ f i. in_range 1 (nodes t) (root t f) (rf f i.0 i.1).inside;
    links = λ n i. let o = h.on n i.0 i.1 in
        four (forward t n (first t n)) (forward t n (next t n)) (eqb (mentions t n) 1)
        (eqb (root_of t n) 0 || eqb (next t n) 0) o.0 o.1 (same (mentions t n) 1 (h.handed.once n i (h.named n i.0 i.1)))
        (ends n (ℕ_discrete (root_of t n) 0));
  }
    where
      four : (a b c d : Bool) → T a → T b → T c → T d → T (a && b && c && d)
      four a b c d p q r s = pair (a && b && c) d (pair (a && b) c (pair a b p q) r) s

      ends : (n : ℕ) → Dec (root_of t n ≡ 0) → T (eqb (root_of t n) 0 || eqb (next t n) 0)
      ends n (yes z) = orl (eqb (root_of t n) 0) (eqb (next t n) 0) (same (root_of t n) 0 z)
      ends n (no z) = orr (eqb (root_of t n) 0) (eqb (next t n) 0) (same (next t n) 0 (
          let f = highest (λ f. eqb (root t f) n) (functions t) in
          let e = eqb→eq (root t f) n (highest_passes (λ f. eqb (root t f) n) (functions t) z) in
          ap (next t) (sym e) ∙ (rf f (omega arith) (highest_bound (λ f. eqb (root t f) n) (functions t))).ends))

  all_kin : Kin t kin
  all_kin = record {
    size = h.handed.size;
    each = λ n i. h.handed.told n i ∙ kin_here t n (nodes t) i.0 (omega (arith, i.1)) (omega arith)
        (λ z. h.named n i.0 i.1 (h.handed.told n i ∙ z));
  }

  all_kids : Kids t kids
  all_kids = record { size = h.size; each = λ n i. h.left n i ∙ last_rank_lem t linking n i }

pub all_linked : (t kin kids : List ℕ) (k : ℕ) → k ≡ nodes t → LinkedTo t k kin kids → RootsFit t (functions t)
    → Linked t × Kin t kin × Kids t kids
all_linked t kin kids k e h rf =
    let all = subst (λ n. LinkedTo t n kin kids) e h in
    (linking t kin kids all rf, all_kin t kin kids all rf, all_kids t kin kids all rf)
