-- in an accepted table a node is named once: by a root, or by the first or next of one lower node
use Prim.Native.Nat.{ℕ, zero, suc, ◌+◌, ◌≤◌, ◌<◌}
use mathlib.Core.Bool.{◌&&◌, ◌||◌}
use mathlib.Core.Path.{◌≡◌, refl, subst, ap}
use mathlib.Core.Logic.{◌⊎◌, inl, inr, ⊎_elim}
use mathlib.Core.List.{List}
use native.Mathlib.Omega.{arith}
use native.Mathlib.Decide.{ℕ_discrete, dec_lt}
use lib.Dec.{T, eqb, ltb, leb, eqb→eq, ltb→lt, lt→ltb, leb→le}
use borrow.Author.Tests.{ne_eqb}
use Rattle.table.specs.Bytes.{functions, nodes, root, first, next}
use Rattle.table.specs.Find.{one, total, highest}
use Rattle.table.proofs.FindLaws.{both, pair, either, orl, orr, same, one_true, one_some, total_one, total_two, total_some}
use Rattle.table.proofs.FindLaws.{highest_bound, highest_passes, highest_hit}
use Rattle.table.specs.Naming.{mentions, root_of, names, namer}
use Rattle.table.specs.Check.{forward, linked}
use Rattle.table.specs.Working.{IsNode, IsFunction, Linked}

-- a node that names another comes before it
pub namer_names : (t : List ℕ) (n : ℕ) → (namer t n ≡ 0 → ⊥)
    → IsNode t (namer t n) × (namer t n < n) × ((first t (namer t n) ≡ n) ⊎ (next t (namer t n) ≡ n))
unfolding namer names
namer_names t n z =
    let m = highest (λ m. names t m n) (nodes t) in
    let h = both (ltb m n) (eqb (first t m) n || eqb (next t m) n) (highest_passes (λ m. names t m n) (nodes t) z) in
    let b = highest_bound (λ m. names t m n) (nodes t) in (
      (omega arith, b),
      ltb→lt m n h.0,
      ⊎_elim (λ x. inl (eqb→eq (first t m) n x)) (λ x. inr (eqb→eq (next t m) n x)) (either (eqb (first t m) n) (eqb (next t m) n) h.1),
    )

pub namer_lower : (t : List ℕ) (n : ℕ) → 1 ≤ n → namer t n < n
namer_lower t n h = go (ℕ_discrete (namer t n) 0)
  where
    go : Dec (namer t n ≡ 0) → namer t n < n
    go (yes e) = omega arith
    go (no e) = (namer_names t n e).1

module _ (t : List ℕ) (lk : Linked t) where
  abbrev F : ℕ
  F = functions t

  abbrev N : ℕ
  N = nodes t

  -- the parts of refusal 4 at a node
  forwards : (n m : ℕ) → T (forward t n m) → (m ≡ 0 → ⊥) → (n < m) × (m ≤ N)
  unfolding forward
  forwards n m h z =
      let p = ⊎_elim (λ x. absurd (z (eqb→eq m 0 x))) (λ x. x) (either (eqb m 0) (ltb n m && leb m N) h) in
      let q = both (ltb n m) (leb m N) p in
      (ltb→lt n m q.0, leb→le m N q.1)

  pub record Link (n : ℕ) : Type 0 where
    pub first_on : (first t n ≡ 0 → ⊥) → (n < first t n) × (first t n ≤ N)
    pub next_on : (next t n ≡ 0 → ⊥) → (n < next t n) × (next t n ≤ N)
    pub once : mentions t n ≡ 1
    pub root_ends : (root_of t n ≡ 0) ⊎ (next t n ≡ 0)

  pub link : (n : ℕ) → IsNode t n → Link n
  unfolding linked
  link n i =
      let x = forward t n (first t n) in
      let y = forward t n (next t n) in
      let z = eqb (mentions t n) 1 in
      let e = eqb (root_of t n) 0 in
      let d = eqb (next t n) 0 in
      let a = both (x && y && z) (e || d) (lk.links n i) in
      let b = both (x && y) z a.0 in
      let c = both x y b.0 in
      record {
        first_on = forwards n (first t n) c.0;
        next_on = forwards n (next t n) c.1;
        once = eqb→eq (mentions t n) 1 b.1;
        root_ends = ⊎_elim (λ x. inl (eqb→eq (root_of t n) 0 x)) (λ x. inr (eqb→eq (next t n) 0 x)) (either e d a.1);
      }

  abbrev root_hit : ℕ → ℕ → ℕ
  root_hit n f = one (eqb (root t f) n)

  abbrev link_hit : ℕ → ℕ → ℕ
  link_hit n m = one (eqb (first t m) n) + one (eqb (next t m) n)

  only_once : (n : ℕ) → IsNode t n → total (root_hit n) F + total (link_hit n) N ≡ 1
  unfolding mentions
  only_once n i = (link n i).once

  hit : (m n : ℕ) → m ≡ n → 1 ≤ one (eqb m n)
  hit m n e = one_true (eqb m n) (same m n e)

  root_in : (f n : ℕ) → IsFunction t f → root t f ≡ n → 1 ≤ total (root_hit n) F
  root_in f n i e = omega (arith, total_one (root_hit n) F f i.0 i.1, hit (root t f) n e)

  names_in : (m n : ℕ) → (first t m ≡ n) ⊎ (next t m ≡ n) → 1 ≤ link_hit n m
  names_in m n (inl e) = omega (arith, hit (first t m) n e)
  names_in m n (inr e) = omega (arith, hit (next t m) n e)

  link_in : (m n : ℕ) → IsNode t m → (first t m ≡ n) ⊎ (next t m ≡ n) → 1 ≤ total (link_hit n) N
  link_in m n i e = omega (arith, total_one (link_hit n) N m i.0 i.1, names_in m n e)

  -- two that name one node are one
  apart : (g : ℕ → ℕ) (k i j : ℕ) → 1 ≤ i → i ≤ k → 1 ≤ j → j ≤ k → 1 ≤ g i → 1 ≤ g j → total g k ≤ 1 → i ≡ j
  apart g k i j a b c d x y s = go (ℕ_discrete i j) (dec_lt i j)
    where
      go : Dec (i ≡ j) → Dec (i < j) → i ≡ j
      go (yes e) l = e
      go (no e) (yes l) = absurd (omega (arith, total_two g k i j a l d))
      go (no e) (no l) = absurd (omega (arith, total_two g k j i c (omega arith) b))

  -- both by count: a root and a link, or two links, would be two mentions
  pub namer_of : (m n : ℕ) → IsNode t m → IsNode t n → m < n → (first t m ≡ n) ⊎ (next t m ≡ n) → namer t n ≡ m
  namer_of m n i j l e =
      let z = some_namer in
      let h = namer_names t n z in
      let o = only_once n j in
      apart (link_hit n) N (namer t n) m h.0.0 h.0.1 i.0 i.1 (names_in (namer t n) n h.2) (names_in m n e) (omega arith)
    where
      passes_test : T (names t m n)
      passes_test = unfold names in pair (ltb m n) (eqb (first t m) n || eqb (next t m) n) (lt→ltb m n l) (test e)
        where
          test : (first t m ≡ n) ⊎ (next t m ≡ n) → T (eqb (first t m) n || eqb (next t m) n)
          test (inl e) = orl (eqb (first t m) n) (eqb (next t m) n) (same (first t m) n e)
          test (inr e) = orr (eqb (first t m) n) (eqb (next t m) n) (same (next t m) n e)

      some_namer : namer t n ≡ 0 → ⊥
      some_namer = unfold namer in highest_hit (λ m. names t m n) N m i.0 i.1 passes_test

  pub not_both : (n : ℕ) → IsNode t n → (next t n ≡ 0 → ⊥) → first t n ≡ next t n → ⊥
  not_both n i z e =
      let l = (link n i).next_on z in
      let o = only_once (next t n) (omega arith, l.1) in
      let a = total_one (link_hit (next t n)) N n i.0 i.1 in
      omega (arith, hit (first t n) (next t n) e, hit (next t n) (next t n) refl)

  root_found : (f n : ℕ) → IsFunction t f → root t f ≡ n → IsFunction t (root_of t n) × (root t (root_of t n) ≡ n)
  unfolding root_of
  root_found f n i e =
      let z = highest_hit (λ f. eqb (root t f) n) F f i.0 i.1 (same (root t f) n e) in
      let p = highest_passes (λ f. eqb (root t f) n) F z in
      ((omega arith, highest_bound (λ f. eqb (root t f) n) F), eqb→eq (root t (highest (λ f. eqb (root t f) n) F)) n p)

  pub root_named : (f : ℕ) → IsFunction t f → (namer t (root t f) ≡ 0) × (root_of t (root t f) ≡ f)
  root_named f i = (unnamed (ℕ_discrete (namer t n) 0), the_root)
    where
      n : ℕ
      n = root t f

      o : total (root_hit n) F + total (link_hit n) N ≡ 1
      o = only_once n (lk.roots f i)

      unnamed : Dec (namer t n ≡ 0) → namer t n ≡ 0
      unnamed (yes e) = e
      unnamed (no e) = let h = namer_names t n e in absurd (omega (arith, o, root_in f n i refl, link_in (namer t n) n h.0 h.2))

      the_root : root_of t n ≡ f
      the_root =
          let r = root_found f n i refl in
          apart (root_hit n) F (root_of t n) f r.0.0 r.0.1 i.0 i.1 (hit (root t (root_of t n)) n r.1) (hit n n refl)
          (omega (arith, o))

  -- a node that no node names is a root
  pub rooted : (n : ℕ) → IsNode t n → namer t n ≡ 0 → IsFunction t (root_of t n) × (root t (root_of t n) ≡ n)
  rooted n i z = go (dec_lt 0 (total (root_hit n) F))
    where
      go : Dec (0 < total (root_hit n) F) → IsFunction t (root_of t n) × (root t (root_of t n) ≡ n)
      go (yes h) =
          let f = total_some (root_hit n) F (omega arith) in
          root_found f.0 n (f.1, f.2) (eqb→eq (root t f.0) n (one_some (eqb (root t f.0) n) f.3))
      go (no h) =
          let o = only_once n i in
          let m = total_some (link_hit n) N (omega arith) in
          absurd (linked_by_lem m.0 (m.1, m.2) m.3)
        where
          linked_by_lem : (m : ℕ) → IsNode t m → 1 ≤ link_hit n m → ⊥
          linked_by_lem m j h = at (ℕ_discrete (first t m) n) (ℕ_discrete (next t m) n)
            where
              at : Dec (first t m ≡ n) → Dec (next t m ≡ n) → ⊥
              at (yes e) d =
                  let l = (link m j).first_on (λ y. omega (arith, y, e, i.0)) in
                  omega (arith, namer_of m n j i (omega (arith, e, l.0)) (inl e), z, j.0)
              at (no d) (yes e) =
                  let l = (link m j).next_on (λ y. omega (arith, y, e, i.0)) in
                  omega (arith, namer_of m n j i (omega (arith, e, l.0)) (inr e), z, j.0)
              at (no d) (no e) = omega (arith, h, ap one (ne_eqb (first t m) n d), ap one (ne_eqb (next t m) n e))

  pub first_named : (n : ℕ) → IsNode t n → (first t n ≡ 0 → ⊥) → namer t (first t n) ≡ n
  first_named n i z = let l = (link n i).first_on z in namer_of n (first t n) i (omega (arith, l.0), l.1) l.0 (inl refl)

  pub next_named : (n : ℕ) → IsNode t n → (next t n ≡ 0 → ⊥) → namer t (next t n) ≡ n
  next_named n i z = let l = (link n i).next_on z in namer_of n (next t n) i (omega (arith, l.0), l.1) l.0 (inr refl)

  -- induction along the naming
  module _ (P : ℕ → Type 0) (at_root : (f : ℕ) → IsFunction t f → P (root t f))
      (at_first : (n : ℕ) → IsNode t n → (first t n ≡ 0 → ⊥) → P n → P (first t n))
      (at_next : (n : ℕ) → IsNode t n → (next t n ≡ 0 → ⊥) → P n → P (next t n)) where
    by_fuel : (k n : ℕ) → n ≤ k → IsNode t n → P n
    by_fuel zero n h i = absurd (omega arith)
    by_fuel (suc k) n h i = go (ℕ_discrete (namer t n) 0) (λ m l j. by_fuel k m (omega arith) j)
      where
        go : Dec (namer t n ≡ 0) → ((m : ℕ) → m < n → IsNode t m → P m) → P n
        go (yes z) f = let r = rooted n i z in subst P r.1 (at_root (root_of t n) r.0)
        go (no z) f = let h = namer_names t n z in from h.0 (f (namer t n) h.1 h.0) h.2
          where
            from : IsNode t (namer t n) → P (namer t n) → (first t (namer t n) ≡ n) ⊎ (next t (namer t n) ≡ n) → P n
            from j p (inl e) = subst P e (at_first (namer t n) j (λ y. omega (arith, y, e, i.0)) p)
            from j p (inr e) = subst P e (at_next (namer t n) j (λ y. omega (arith, y, e, i.0)) p)

    pub named : (n : ℕ) → IsNode t n → P n
    named n i = by_fuel n n (omega arith) i

  -- induction from the last node to the first
  module _ (P : ℕ → Type 0) (step : (n : ℕ) → IsNode t n → ((m : ℕ) → n < m → m ≤ N → P m) → P n) where
    from_above : (k n : ℕ) → N < n + k → IsNode t n → P n
    from_above zero n h i = absurd (omega arith)
    from_above (suc k) n h i = step n i (λ m l j. from_above k m (omega arith) (omega arith, j))

    pub backwards : (n : ℕ) → IsNode t n → P n
    backwards n i = from_above (suc N) n (omega arith) i
