-- owner, parent and tail position, told from the link that names a node
use Prim.Native.Nat.{ℕ, zero, suc, ◌≤◌, ◌<◌}
use mathlib.Core.Bool.{Bool, true, false, ◌&&◌}
use mathlib.Core.Path.{◌≡◌, refl, subst, sym, ap, ◌∙◌}
use mathlib.Core.List.{List}
use native.Mathlib.Omega.{arith}
use native.Mathlib.Decide.{ℕ_discrete}
use lib.Dec.{eqb}
use borrow.Author.Tests.{eq-eqb, ne_eqb}
use Rattle.table.specs.Pick.{pick}
use Rattle.table.specs.Bytes.{functions, root, first, next}
use Rattle.table.specs.Find.{back_by, back}
use Rattle.table.proofs.FindLaws.{highest_bound, back_step}
use Rattle.table.specs.Naming.{root_of, namer, owner, parent, tail_child, tail}
use Rattle.table.specs.Working.{IsNode, IsFunction, Linked}
use Rattle.table.proofs.Links.{namer_names, namer_lower, link, root_named, not_both, first_named, next_named, named}

pub pick_true {ℓ} : {A : Type ℓ} (b : Bool) (x y : A) → b ≡ true → pick b x y ≡ x
pick_true b x y e = ap (λ c. pick c x y) e

pub pick_false {ℓ} : {A : Type ℓ} (b : Bool) (x y : A) → b ≡ false → pick b x y ≡ y
pick_false b x y e = ap (λ c. pick c x y) e

owner_zero : (t : List ℕ) → owner t 0 ≡ 0
unfolding owner back back_by
owner_zero t = refl

root_below : (t : List ℕ) (n : ℕ) → root_of t n ≤ functions t
unfolding root_of
root_below t n = highest_bound (λ f. eqb (root t f) n) (functions t)

-- by what names a node, in any table
module _ (t : List ℕ) (n : ℕ) (i : 1 ≤ n) where
  pub owner_step : owner t n ≡ pick (eqb (namer t n) 0) (root_of t n) (owner t (namer t n))
  unfolding owner
  owner_step = back_step (namer t) (λ n r. pick (eqb (namer t n) 0) (root_of t n) r) 0 (namer_lower t) n i

  pub parent_step : parent t n ≡ pick (eqb (namer t n) 0) 0 (pick (eqb (first t (namer t n)) n) (namer t n) (parent t (namer t n)))
  unfolding parent
  parent_step =
      back_step (namer t) (λ n r. pick (eqb (namer t n) 0) 0 (pick (eqb (first t (namer t n)) n) (namer t n) r)) 0 (namer_lower t) n i

  pub owner_top : namer t n ≡ 0 → owner t n ≡ root_of t n
  owner_top z = owner_step ∙ pick_true (eqb (namer t n) 0) (root_of t n) (owner t (namer t n)) (eq-eqb (namer t n) 0 z)

  pub owner_down : (m : ℕ) → 1 ≤ m → namer t n ≡ m → owner t n ≡ owner t m
  owner_down m j e =
      owner_step ∙ pick_false (eqb (namer t n) 0) (root_of t n) (owner t (namer t n)) (ne_eqb (namer t n) 0 (λ z. omega (arith, z, e)))
      ∙ ap (owner t) e

  pub parent_top : namer t n ≡ 0 → parent t n ≡ 0
  parent_top z = parent_step ∙ pick_true (eqb (namer t n) 0) 0 _ (eq-eqb (namer t n) 0 z)

  parent_named : (namer t n ≡ 0 → ⊥) → parent t n ≡ pick (eqb (first t (namer t n)) n) (namer t n) (parent t (namer t n))
  parent_named z = parent_step ∙ pick_false (eqb (namer t n) 0) 0 _ (ne_eqb (namer t n) 0 z)

  pub parent_down : (m : ℕ) → 1 ≤ m → namer t n ≡ m → first t m ≡ n → parent t n ≡ m
  parent_down m j e f =
      parent_named (λ z. omega (arith, z, e))
      ∙ pick_true (eqb (first t (namer t n)) n) (namer t n) (parent t (namer t n))
      (eq-eqb (first t (namer t n)) n (ap (first t) e ∙ f)) ∙ e

  pub parent_along : (m : ℕ) → 1 ≤ m → namer t n ≡ m → (first t m ≡ n → ⊥) → parent t n ≡ parent t m
  parent_along m j e f =
      parent_named (λ z. omega (arith, z, e))
      ∙ pick_false (eqb (first t (namer t n)) n) (namer t n) (parent t (namer t n))
      (ne_eqb (first t (namer t n)) n (λ q. f (sym (ap (first t) e) ∙ q)))
      ∙ ap (parent t) e

-- a node's function is at most F
owner_below : (t : List ℕ) (k n : ℕ) → n ≤ k → owner t n ≤ functions t
owner_below t zero n h = let z : n ≡ 0 = omega arith in rw z (omega (arith, owner_zero t))
owner_below t (suc k) n h = go (ℕ_discrete n 0) (ℕ_discrete (namer t n) 0) (λ m a. owner_below t k m (omega arith))
  where
    go : Dec (n ≡ 0) → Dec (namer t n ≡ 0) → ((m : ℕ) → m < n → owner t m ≤ functions t) → owner t n ≤ functions t
    go (yes q) z f = rw q (omega (arith, owner_zero t))
    go (no q) (yes z) f = omega (arith, owner_top t n (omega arith) z, root_below t n)
    go (no q) (no z) f = omega (
      arith,
      owner_down t n (omega arith) (namer t n) (omega arith) refl,
      f (namer t n) (namer_lower t n (omega arith)),
    )

pub owner_few : (t : List ℕ) (n : ℕ) → owner t n ≤ functions t
owner_few t n = owner_below t n n (omega arith)

parent_below : (t : List ℕ) (k n : ℕ) → n ≤ k → 1 ≤ n → parent t n < n
parent_below t zero n h i = absurd (omega arith)
parent_below t (suc k) n h i = go (ℕ_discrete (namer t n) 0) (λ m a b. parent_below t k m (omega arith) b)
  where
    go : Dec (namer t n ≡ 0) → ((m : ℕ) → m < n → 1 ≤ m → parent t m < m) → parent t n < n
    go (yes z) f = omega (arith, parent_top t n i z)
    go (no z) f =
        let h = namer_names t n z in
        let l = f (namer t n) h.1 h.0.0 in
        elim (ℕ_discrete (first t (namer t n)) n) [
          | yes e ↦ omega (arith, parent_down t n i (namer t n) h.0.0 refl e, h.1)
          | no e ↦ omega (arith, parent_along t n i (namer t n) h.0.0 refl e, h.1, l)
        ]

pub parent_lower : (t : List ℕ) (n : ℕ) → 1 ≤ n → parent t n < n
parent_lower t n i = parent_below t n n (omega arith) i

pub parent_zero : (t : List ℕ) → parent t 0 ≡ 0
unfolding parent back back_by
parent_zero t = refl

module _ (t : List ℕ) (n : ℕ) (i : 1 ≤ n) where
  pub tail_step : tail t n ≡ pick (eqb (parent t n) 0) true (tail_child t (parent t n) n && tail t (parent t n))
  unfolding tail
  tail_step = back_step (parent t) (λ n r. pick (eqb (parent t n) 0) true (tail_child t (parent t n) n && r)) true (parent_lower t) n i

  pub tail_top : parent t n ≡ 0 → tail t n ≡ true
  tail_top z = tail_step ∙ pick_true (eqb (parent t n) 0) true _ (eq-eqb (parent t n) 0 z)

  pub tail_down : (parent t n ≡ 0 → ⊥) → tail t n ≡ (tail_child t (parent t n) n && tail t (parent t n))
  tail_down z = tail_step ∙ pick_false (eqb (parent t n) 0) true _ (ne_eqb (parent t n) 0 z)

-- by the links of an accepted table
module _ (t : List ℕ) (lk : Linked t) where
  pub first_node : (n : ℕ) → IsNode t n → (first t n ≡ 0 → ⊥) → IsNode t (first t n)
  first_node n i z = let l = (link t lk n i).first_on z in (omega (arith, l.0), l.1)

  pub next_node : (n : ℕ) → IsNode t n → (next t n ≡ 0 → ⊥) → IsNode t (next t n)
  next_node n i z = let l = (link t lk n i).next_on z in (omega (arith, l.0), l.1)

  pub owner_root : (f : ℕ) → IsFunction t f → owner t (root t f) ≡ f
  owner_root f i = let r = root_named t lk f i in owner_top t (root t f) (lk.roots f i).0 r.0 ∙ r.1

  pub owner_first : (n : ℕ) → IsNode t n → (first t n ≡ 0 → ⊥) → owner t (first t n) ≡ owner t n
  owner_first n i z = owner_down t (first t n) (first_node n i z).0 n i.0 (first_named t lk n i z)

  pub owner_next : (n : ℕ) → IsNode t n → (next t n ≡ 0 → ⊥) → owner t (next t n) ≡ owner t n
  owner_next n i z = owner_down t (next t n) (next_node n i z).0 n i.0 (next_named t lk n i z)

  pub parent_root : (f : ℕ) → IsFunction t f → parent t (root t f) ≡ 0
  parent_root f i = parent_top t (root t f) (lk.roots f i).0 (root_named t lk f i).0

  pub parent_first : (n : ℕ) → IsNode t n → (first t n ≡ 0 → ⊥) → parent t (first t n) ≡ n
  parent_first n i z = parent_down t (first t n) (first_node n i z).0 n i.0 (first_named t lk n i z) refl

  pub parent_next : (n : ℕ) → IsNode t n → (next t n ≡ 0 → ⊥) → parent t (next t n) ≡ parent t n
  parent_next n i z = parent_along t (next t n) (next_node n i z).0 n i.0 (next_named t lk n i z) (not_both t lk n i z)

  -- a node's function is one of the table's
  pub owner_in : (n : ℕ) → IsNode t n → IsFunction t (owner t n)
  owner_in = named t lk (λ n. IsFunction t (owner t n))
      (λ f i. subst (IsFunction t) (sym (owner_root f i)) i)
      (λ n i z h. subst (IsFunction t) (sym (owner_first n i z)) h)
      (λ n i z h. subst (IsFunction t) (sym (owner_next n i z)) h)

  -- a node's parent is a node of the same function, or none for a root
  pub parent_node : (n : ℕ) → IsNode t n → (parent t n ≡ 0 → ⊥) → IsNode t (parent t n)
  parent_node n i z = let l = parent_lower t n i.0 in (omega arith, omega arith)

  pub owner_parent : (n : ℕ) → IsNode t n → (parent t n ≡ 0 → ⊥) → owner t (parent t n) ≡ owner t n
  owner_parent = named t lk (λ n. (parent t n ≡ 0 → ⊥) → owner t (parent t n) ≡ owner t n)
      (λ f i z. absurd (z (parent_root f i)))
      (λ n i z h x. ap (owner t) (parent_first n i z) ∙ sym (owner_first n i z))
      (λ n i z h x. ap (owner t) (parent_next n i z) ∙ h (λ y. x (parent_next n i z ∙ y)) ∙ sym (owner_next n i z))
