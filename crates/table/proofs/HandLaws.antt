-- kin handed from node to node: what a root or a link hands on, and that nothing is handed twice
use Prim.Native.Nat.{ℕ, zero, suc, ◌+◌, ◌-◌, ◌*◌, ◌%◌, ◌/◌, ◌≤◌, ◌<◌}
use mathlib.Core.Bool.{Bool, true, false, ◌&&◌, ◌||◌}
use mathlib.Core.Path.{◌≡◌, refl, sym, ap, ◌∙◌}
use mathlib.Core.List.{List}
use native.Mathlib.Omega.{arith}
use native.Mathlib.Decide.{ℕ_discrete}
use lib.Dec.{eqb}
use lib.ListN.{length, get_or, set, length-set}
use lib.Seq.{get_or-set_same, get_or-set_other}
use borrow.Author.Tests.{eq-eqb, ne_eqb, le-ltb}
use Rattle.table.specs.Pick.{pick}
use Rattle.table.specs.Bytes.{functions, nodes, root, first, next}
use Rattle.table.specs.Find.{highest}
use Rattle.table.specs.Naming.{root_of, names, namer, owner, parent}
use Rattle.table.specs.Working.{IsNode, Framed, Kindred}
use Rattle.table.specs.Sweep.{rank, kin_of, handed, root_kin, kin_to, Kin, hand}
use Rattle.table.proofs.FindLaws.{highest_bound, back_step}
use Rattle.table.proofs.Links.{namer_lower}
use Rattle.table.proofs.Family.{owner_step, owner_top, owner_down, parent_step, parent_lower}
use Rattle.table.proofs.Loops.{highest_more}

-- a search that finds nothing more
highest_on : (p : ℕ → Bool) (d k : ℕ) → ((i : ℕ) → k < i → p i ≡ false) → highest p (d + k) ≡ highest p k
highest_on p zero k f = ap (highest p) (omega arith)
highest_on p (suc d) k f =
    ap (highest p) (next_sum d k) ∙ highest_more p (d + k)
    ∙ ap (λ b. pick b (d + k + 1) (highest p (d + k))) (f (d + k + 1) (omega arith)) ∙ highest_on p d k f
  where
    next_sum : (d k : ℕ) → suc d + k ≡ d + k + 1
    next_sum d k = omega arith

module _ (t : List ℕ) where
  -- what names a node is lower
  names_no : (m n : ℕ) → n ≤ m → names t m n ≡ false
  unfolding names
  names_no m n h = ap (λ b. b && (eqb (first t m) n || eqb (next t m) n)) (le-ltb m n h)

  namer_by : (n k : ℕ) → n ≤ k + 1 → k ≤ nodes t → highest (λ m. names t m n) k ≡ namer t n
  unfolding namer
  namer_by n k e h =
      sym (highest_on (λ m. names t m n) (nodes t - k) k (λ i j. names_no i n (omega arith)))
      ∙ ap (highest (λ m. names t m n)) (omega arith)

  -- rank, as owner and parent, by what names a node
  pub rank_step : (n : ℕ) → 1 ≤ n
      → rank t n ≡ pick (eqb (namer t n) 0) 1 (pick (eqb (first t (namer t n)) n) 1 (rank t (namer t n) + 1))
  unfolding rank
  rank_step = back_step (namer t) (λ n r. pick (eqb (namer t n) 0) 1 (pick (eqb (first t (namer t n)) n) 1 (r + 1))) 0 (namer_lower t)

  kin_down : (n m : ℕ) → 1 ≤ n → namer t n ≡ m → (m ≡ 0 → ⊥) → kin_of t n ≡ handed t m n
  unfolding kin_of handed
  kin_down n m i e z =
      let q = ne_eqb m 0 z in
      let o = owner_step t n i in
      let p = parent_step t n i in
      let r = rank_step n i in
      go (eqb (first t m) n) refl (rw (e, q) at o) (rw (e, q) at p) (rw (e, q) at r)
    where
      go : (b : Bool) → eqb (first t m) n ≡ b → owner t n ≡ owner t m → parent t n ≡ pick (eqb (first t m) n) m (parent t m)
          → rank t n ≡ pick (eqb (first t m) n) 1 (rank t m + 1)
          → owner t n + 64 * parent t n + 65536 * rank t n
          ≡ pick (eqb (first t m) n) (owner t m + 64 * m + 65536) (owner t m + 64 * parent t m + 65536 * rank t m + 65536)
      go true b o p r = rw b (omega (arith, o, rw b at p, rw b at r))
      go false b o p r = rw b (omega (arith, o, rw b at p, rw b at r))

  kin_top : (n : ℕ) → 1 ≤ n → namer t n ≡ 0 → (root_of t n ≡ 0 → ⊥) → kin_of t n ≡ root_kin (root_of t n)
  unfolding kin_of root_kin
  kin_top n i e z =
      let o = owner_step t n i in
      let p = parent_step t n i in
      let r = rank_step n i in
      rw (ne_eqb (root_of t n) 0 z) (omega (arith, rw e at o, rw e at p, rw e at r))

  zero_kin : (f : ℕ) → f ≡ 0 → root_kin f ≡ 0
  unfolding root_kin
  zero_kin f e = ap (λ b. pick b 0 (f + 65536)) (eq-eqb f 0 e)

  -- once all lower nodes have handed on, a node has its kin
  module _ (n k : ℕ) (i : 1 ≤ n) (e : n ≤ k + 1) (b : k ≤ nodes t) (z : kin_to t (functions t) k n ≡ 0 → ⊥) where
    by : kin_to t (functions t) k n ≡ pick (eqb (namer t n) 0) (root_kin (root_of t n)) (handed t (namer t n) n)
    unfolding kin_to root_of
    by = ap (λ m. pick (eqb m 0) (root_kin (root_of t n)) (handed t m n)) (namer_by n k e b)

    top : namer t n ≡ 0 → kin_to t (functions t) k n ≡ root_kin (root_of t n)
    top q = by ∙ ap (λ b. pick b (root_kin (root_of t n)) (handed t (namer t n) n)) (eq-eqb (namer t n) 0 q)

    -- what nothing names but has its kin is a root
    pub root_some : namer t n ≡ 0 → root_of t n ≡ 0 → ⊥
    root_some q e = z (top q ∙ zero_kin (root_of t n) e)

    pub kin_here : kin_to t (functions t) k n ≡ kin_of t n
    kin_here = go (ℕ_discrete (namer t n) 0)
      where
        go : Dec (namer t n ≡ 0) → kin_to t (functions t) k n ≡ kin_of t n
        go (no q) = by ∙ ap (λ b. pick b (root_kin (root_of t n)) (handed t (namer t n) n)) (ne_eqb (namer t n) 0 q)
            ∙ sym (kin_down n (namer t n) i refl q)
        go (yes q) = top q ∙ sym (kin_top n i q (root_some q))

  -- function and rank are small
  owner_small : (k n : ℕ) → n ≤ k → 1 ≤ n → owner t n ≤ functions t
  unfolding root_of
  owner_small zero n h i = absurd (omega arith)
  owner_small (suc k) n h i = go (ℕ_discrete (namer t n) 0) (namer_lower t n i) (λ m a b. owner_small k m (omega arith) b)
    where
      go : Dec (namer t n ≡ 0) → namer t n < n → ((m : ℕ) → m < n → 1 ≤ m → owner t m ≤ functions t) → owner t n ≤ functions t
      go (yes q) l f = omega (arith, owner_top t n i q, highest_bound (λ f. eqb (root t f) n) (functions t))
      go (no q) l f = omega (arith, owner_down t n i (namer t n) (omega arith) refl, f (namer t n) l (omega arith))

  pub rank_small : (k n : ℕ) → n ≤ k → 1 ≤ n → rank t n ≤ n
  rank_small zero n h i = absurd (omega arith)
  rank_small (suc k) n h i = go (ℕ_discrete (namer t n) 0) (namer_lower t n i) (λ m a b. rank_small k m (omega arith) b)
    where
      by : (m : ℕ) (b : Bool) → rank t n ≡ pick b 1 (rank t m + 1) → m < n → rank t m ≤ m → rank t n ≤ n
      by m true e l j = omega arith
      by m false e l j = omega arith

      go : Dec (namer t n ≡ 0) → namer t n < n → ((m : ℕ) → m < n → 1 ≤ m → rank t m ≤ m) → rank t n ≤ n
      go (yes q) l f = let r = rank_step n i in omega (arith, rw q at r)
      go (no q) l f =
          let m = namer t n in
          let r = rank_step n i in
          by m (eqb (first t m) n) (rw (ne_eqb m 0 q) at r) l (f m l (omega arith))

-- function, parent and rank told from a node's kin
module _ (t : List ℕ) (fr : Framed t) (n : ℕ) (i : IsNode t n) (w : ℕ) (e : w ≡ kin_of t n) where
  pub kin_owner : w % 64 ≡ owner t n
  unfolding kin_of
  kin_owner = omega (arith, e, owner_small t n n (omega arith) i.0, fr.f_high)

  pub kin_parent : w / 64 % 1024 ≡ parent t n
  unfolding kin_of
  kin_parent = omega (arith, e, owner_small t n n (omega arith) i.0, fr.f_high, parent_lower t n i.0, i.1, fr.n_high)

  pub kin_rank : w / 65536 ≡ rank t n
  unfolding kin_of
  kin_rank = omega (arith, e, owner_small t n n (omega arith) i.0, fr.f_high, parent_lower t n i.0, i.1, fr.n_high)

  pub kin_small : w < 67108864
  unfolding kin_of
  kin_small = omega (
    arith,
    e,
    owner_small t n n (omega arith) i.0,
    fr.f_high,
    parent_lower t n
        i.0,
    i.1,
    fr.n_high,
    rank_small t n n (omega arith) i.0,
  )

-- an array of kin after x was handed to v
module _ (kin : List ℕ) (v x : ℕ) (size : length kin ≡ 513) (room : v < 513) where
  pub hand_size : length (hand kin v x) ≡ 513
  hand_size = length-set (set kin v x) 0 0 ∙ length-set kin v x ∙ size

  pub hand_none : get_or (hand kin v x) 0 0 ≡ 0
  hand_none = get_or-set_same (set kin v x) 0 0 0 (omega (arith, length-set kin v x, size))

  pub hand_at : (u : ℕ) → 1 ≤ u → get_or (hand kin v x) u 0 ≡ pick (eqb v u) x (get_or kin u 0)
  hand_at u i = get_or-set_other (set kin v x) 0 u 0 0 (λ e. omega arith) ∙ go (ℕ_discrete v u)
    where
      go : Dec (v ≡ u) → get_or (set kin v x) u 0 ≡ pick (eqb v u) x (get_or kin u 0)
      go (yes e) = rw (eq-eqb v u e) (ap (λ w. get_or (set kin w x) u 0) e ∙ get_or-set_same kin u x 0 (omega (arith, size, e)))
      go (no e) = rw (ne_eqb v u e) (get_or-set_other kin v u x 0 (λ q. e (sym q)))

pub kindred : (t kin : List ℕ) → Framed t → Kin t kin → Kindred t kin
kindred t kin fr h = record {
  size = h.size;
  owners = λ n i. kin_owner t fr n i _ (h.each n i);
  parents = λ n i. kin_parent t fr n i _ (h.each n i);
}
