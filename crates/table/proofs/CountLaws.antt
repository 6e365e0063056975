-- the number of children that a node may have, from what was read of it
use Prim.Native.Nat.{ℕ, ◌^◌, ◌≤◌}
use mathlib.Core.Bool.{Bool, true, false, ◌&&◌, ◌||◌, not}
use mathlib.Core.Path.{◌≡◌, refl, sym, ap, ap₂, ◌∙◌}
use mathlib.Core.List.{List}
use native.Mathlib.Decide.{ℕ_discrete}
use native.Mathlib.Omega.{arith}
use lib.Dec.{eqb, ltb}
use lib.ListN.{length}
use borrow.Author.Tests.{ne_eqb}
use Rattle.table.proofs.Tests.{true_t}
use Rattle.table.specs.declared.Counts.{Counts}
use Rattle.table.specs.Bytes.{functions, nodes, params, width, kind, extra, word, first}
use Rattle.table.specs.Naming.{owner, tail, in_scope, chain, children}
use Rattle.table.specs.Check.{among, within, fields, formed, callee_fits, counts_of, counted, scoped, tailed, const_fits}
use Rattle.table.specs.Working.{IsNode, Linked}
use Rattle.table.proofs.Passed.{in_range}
use Rattle.table.proofs.Links.{link}
use Rattle.table.proofs.Family.{owner_in}

-- what is no call does not ask for parameters
pub counts_by : (k e p q : ℕ) → (k ≡ 4 → p ≡ q) → counts_of k e p ≡ counts_of k e q
unfolding counts_of
counts_by k e p q h = go (ℕ_discrete k 4)
  where
    go : Dec (k ≡ 4) → counts_of k e p ≡ counts_of k e q
    go (yes z) = ap (counts_of k e) (h z)
    go (no z) = rw (ne_eqb k 4 z)

module _ (t : List ℕ) (n k e w p c j : ℕ) (r : Counts) (ek : k ≡ kind t n) (ee : e ≡ extra t n) (ew : w ≡ word t n)
    (ep : k ≡ 4 → p ≡ params t w) (er : r ≡ counts_of k e p) (ec : c ≡ first t n) (ej : j ≡ length (chain t c)) where
  pub told_counted : within r j ≡ counted t n
  unfolding counted children
  told_counted = ap₂ within
      (er ∙ counts_by k e p (params t w) ep ∙ ap₂ (λ x y. counts_of x y (params t w)) ek ee ∙ ap
      (λ x. counts_of (kind t n) (extra t n) (params t x)) ew)
      (ej ∙ ap (λ x. length (chain t x)) ec)

-- a first child is 0 or a node
pub first_inside : (t : List ℕ) → Linked t → (n : ℕ) → IsNode t n → first t n ≤ nodes t
first_inside t lk n i = go (ℕ_discrete (first t n) 0)
  where
    go : Dec (first t n ≡ 0) → first t n ≤ nodes t
    go (yes z) = omega arith
    go (no z) = ((link t lk n i).first_on z).1

-- 8 by kind
module _ (t : List ℕ) (n : ℕ) where
  pub scoped_param : kind t n ≡ 2 → scoped t n ≡ ltb (extra t n) (params t (owner t n))
  unfolding scoped
  scoped_param e = rw e (and_true (ltb (extra t n) (params t (owner t n))))
    where
      and_true : (b : Bool) → (b && true) ≡ b
      and_true true = refl
      and_true false = refl

  pub scoped_bound : kind t n ≡ 7 → scoped t n ≡ in_scope t (word t n) n
  unfolding scoped
  scoped_bound e = rw e

  pub scoped_other : (kind t n ≡ 2 → ⊥) → (kind t n ≡ 7 → ⊥) → scoped t n ≡ true
  unfolding scoped
  scoped_other a b = rw (ne_eqb (kind t n) 2 a, ne_eqb (kind t n) 7 b)

-- 5, 6, 9 and 25 from what was read of a node
module _ (t : List ℕ) (n k e w c o : ℕ) (ek : k ≡ kind t n) (ee : e ≡ extra t n) (ew : w ≡ word t n) (ec : c ≡ first t n)
    (eo : o ≡ owner t n) where
  pub told_formed : fields k e w c ≡ formed t n
  unfolding formed
  told_formed = rw (ek, ee, ew, ec)

  pub told_callee : (not (eqb k 4) || among 1 o w) ≡ callee_fits t n
  unfolding callee_fits
  told_callee = rw (ek, ew, eo)

  pub told_tailed : (b : Bool) → b ≡ tail t n → (not (eqb k 4 && eqb w o) || b) ≡ tailed t n
  unfolding tailed
  told_tailed b eb = rw (ek, ew, eo, eb)

  pub told_const : (b : ℕ) → b ≡ width t o → (not (eqb k 1) || ltb w (2 ^ b)) ≡ const_fits t n
  unfolding const_fits
  told_const b eb = rw (eb, ek, ew, eo)

  -- a callee that passes is one of the functions
  pub callee_in : Linked t → IsNode t n → callee_fits t n ≡ true → k ≡ 4 → (1 ≤ w) × (w ≤ functions t)
  unfolding callee_fits
  callee_in lk i h z =
      let q : among 1 (owner t n) (word t n) ≡ true = rw (sym ek ∙ z) at h in
      let r = in_range 1 (owner t n) (word t n) (true_t (among 1 (owner t n) (word t n)) q) in
      (omega (arith, ew, r.0), omega (arith, ew, r.1, (owner_in t lk n i).1))
