-- what the loops of the sweep found together: the check accepts the table
use Prim.Native.Nat.{ℕ, ◌^◌}
use mathlib.Core.Bool.{Bool, true, false, ◌&&◌, ◌||◌, not}
use mathlib.Core.Path.{◌≡◌, refl, sym, ap, ◌∙◌}
use mathlib.Core.List.{List}
use native.Mathlib.Omega.{arith}
use native.Mathlib.Decide.{ℕ_discrete}
use lib.Dec.{T, eqb, ltb, leb, leb→le}
use lib.ListN.{length}
use borrow.Author.Tests.{eq-eqb, ne_eqb, le-leb, lt-ltb}
use Rattle.table.specs.Find.{one, lowest}
use Rattle.table.specs.Bytes.{functions, nodes, params, width, kind, extra, word, first}
use Rattle.table.specs.Naming.{owner, tail, in_scope, children}
use Rattle.table.specs.Check.{among, root_fits, linked, record_fits, fields, formed, callee_fits, counts_of, counted, scoped, tailed}
use Rattle.table.specs.Check.{const_fits}
use Rattle.table.specs.Working.{IsNode, Framed, Taken, check_nodes}
use Rattle.table.specs.Sweep.{RootsFit, Whole, NodeFits, bound_fits, BoundsFit}
use Rattle.table.proofs.Tests.{true_t, T_true}
use Rattle.table.proofs.FindLaws.{both, pair, passes_lowest, passes_all}
use Rattle.table.proofs.Passed.{goes_on}
use Rattle.table.proofs.SurveyLaws.{nodes_checked}
use Rattle.table.proofs.Tree.{no_more, first_or}

-- a first child is of no matter but to a leaf
leaf_or : (k e w c : ℕ) → (k ≡ 1 → c ≡ 0) → (k ≡ 2 → c ≡ 0) → (k ≡ 7 → c ≡ 0) → fields k e w 0 ≡ true → fields k e w c ≡ true
unfolding fields
leaf_or k e w c a b d h = go (ℕ_discrete k 1) (ℕ_discrete k 2) (ℕ_discrete k 7)
  where
    go : Dec (k ≡ 1) → Dec (k ≡ 2) → Dec (k ≡ 7) → fields k e w c ≡ true
    go (yes q) y z = ap (fields k e w) (a q) ∙ h
    go (no p) (yes q) z = ap (fields k e w) (b q) ∙ h
    go (no p) (no q) (yes r) = ap (fields k e w) (d r) ∙ h
    go (no p) (no q) (no r) = rw (ne_eqb k 1 p, ne_eqb k 2 q, ne_eqb k 7 r) (rw (ne_eqb k 1 p, ne_eqb k 2 q, ne_eqb k 7 r) at h)

module _ (t : List ℕ) (fr : Framed t) (wh : Whole t) (rf : RootsFit t (functions t)) (fits : (n : ℕ) → IsNode t n → NodeFits t n)
    (bf : BoundsFit t) where
  -- no child where the kind allows none
  childless : (n : ℕ) (k : ℕ) → IsNode t n → kind t n ≡ k → (counts_of k (extra t n) (params t (word t n))).high ≡ 0 → first t n ≡ 0
  unfolding counted children
  childless n k i e z =
      let c = counts_of (kind t n) (extra t n) (params t (word t n)) in
      let l = length (children t n) in
      let h = (both (leb c.low l) (leb l c.high) (wh.counts n i)).1 in
      let most = leb→le l c.high h in
      let same = ap (λ k. (counts_of k (extra t n) (params t (word t n))).high) e in
      no_more t wh.links (first t n) (first_or t wh.links n i) (omega (arith, most, same, z))

  formed_all : (n : ℕ) → IsNode t n → T (formed t n)
  unfolding formed counts_of
  formed_all n i = true_t (formed t n) (leaf_or (kind t n) (extra t n) (word t n) (first t n)
      (λ e. childless n 1 i e refl) (λ e. childless n 2 i e refl) (λ e. childless n 7 i e refl) (fits n i).fits.shaped)

  callees_all : (n : ℕ) → IsNode t n → T (callee_fits t n)
  unfolding callee_fits
  callees_all n i = go (ℕ_discrete (kind t n) 4)
    where
      go : Dec (kind t n ≡ 4) → T (not (eqb (kind t n) 4) || among 1 (owner t n) (word t n))
      go (yes e) = let c = (fits n i).fits.callee e in
          rw (eq-eqb (kind t n) 4 e, le-leb 1 (word t n) c.0, le-leb (word t n) (owner t n) c.1) tt
      go (no e) = rw (ne_eqb (kind t n) 4 e) tt

  scopes_all : (n : ℕ) → IsNode t n → T (scoped t n)
  unfolding scoped bound_fits
  scopes_all n i =
      pair (not (eqb (kind t n) 2) || ltb (extra t n) (params t (owner t n))) (not (eqb (kind t n) 7) || in_scope t (word t n) n)
      (go (ℕ_discrete (kind t n) 2)) (bf n i)
    where
      go : Dec (kind t n ≡ 2) → T (not (eqb (kind t n) 2) || ltb (extra t n) (params t (owner t n)))
      go (yes e) = rw (eq-eqb (kind t n) 2 e, lt-ltb (extra t n) (params t (owner t n)) ((fits n i).fits.param e)) tt
      go (no e) = rw (ne_eqb (kind t n) 2 e) tt

  tails_all : (n : ℕ) → IsNode t n → T (tailed t n)
  unfolding tailed
  tails_all n i = go (ℕ_discrete (kind t n) 4) (ℕ_discrete (word t n) (owner t n))
    where
      yes_one : (b : Bool) → one b ≡ 1 → b ≡ true
      yes_one true h = refl
      yes_one false h = absurd (omega arith)

      go : Dec (kind t n ≡ 4) → Dec (word t n ≡ owner t n) → T (not (eqb (kind t n) 4 && eqb (word t n) (owner t n)) || tail t n)
      go (yes e) (yes f) =
          let ends = sym ((fits n i).tails wh) ∙ (fits n i).fits.ends e f in
          rw (eq-eqb (kind t n) 4 e, eq-eqb (word t n) (owner t n) f, yes_one (tail t n) ends) tt
      go (yes e) (no f) = rw (eq-eqb (kind t n) 4 e, ne_eqb (word t n) (owner t n) f) tt
      go (no e) f = rw (ne_eqb (kind t n) 4 e) tt

  constants_all : (n : ℕ) → IsNode t n → T (const_fits t n)
  unfolding const_fits
  constants_all n i = go (ℕ_discrete (kind t n) 1)
    where
      go : Dec (kind t n ≡ 1) → T (not (eqb (kind t n) 1) || ltb (word t n) (2 ^ width t (owner t n)))
      go (yes e) = rw (eq-eqb (kind t n) 1 e, lt-ltb (word t n) (2 ^ width t (owner t n)) ((fits n i).fits.constant e)) tt
      go (no e) = rw (ne_eqb (kind t n) 1 e) tt

  none_fails : (p : ℕ → Bool) → ((n : ℕ) → IsNode t n → T (p n)) → lowest p (nodes t) ≡ 0
  none_fails p f = passes_lowest p (nodes t) (λ n a b. f n (a, b))

  pub swept_taken : Taken t
  unfolding check_nodes
  swept_taken =
      nodes_checked t fr
      (T_true _ (passes_all (root_fits t) (functions t) (λ f a b. (rf f a b).inside)))
      (none_fails (linked t) wh.links.links)
      (T_true _ (passes_all (record_fits t) (functions t) (λ f a b. (rf f a b).fits)))
      ∙ goes_on 5 true _ _ tt (none_fails (formed t) formed_all)
      ∙ goes_on 6 true _ _ tt (none_fails (callee_fits t) callees_all)
      ∙ goes_on 7 true _ _ tt (none_fails (counted t) wh.counts)
      ∙ goes_on 8 true _ _ tt (none_fails (scoped t) scopes_all)
      ∙ goes_on 9 true _ _ tt (none_fails (tailed t) tails_all)
      ∙ goes_on 25 true _ _ tt (none_fails (const_fits t) constants_all)
