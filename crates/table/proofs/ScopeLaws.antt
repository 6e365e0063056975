-- the lets around a node: a bound in the body of one sees its definientia
use Prim.Native.Nat.{ℕ, zero, suc, ◌+◌, ◌≤◌}
use mathlib.Core.Bool.{Bool, true, false, ◌&&◌, ◌||◌, not}
use mathlib.Core.Path.{◌≡◌, refl, subst, sym, ap, ◌∙◌}
use mathlib.Core.List.{List}
use mathlib.Core.Logic.{◌⊎◌, inl, inr, ⊎_elim}
use native.Mathlib.Omega.{arith}
use native.Mathlib.Decide.{ℕ_discrete}
use lib.Dec.{T, eqb, eqb→eq}
use borrow.Author.Tests.{eq-eqb, ne_eqb}
use Rattle.table.specs.Pick.{pick}
use Rattle.table.specs.Find.{one}
use Rattle.table.specs.Bytes.{kind, word, next}
use Rattle.table.specs.Naming.{parent, under_last, definiens, in_scope}
use Rattle.table.specs.Sweep.{around, is_let, Encloses, Outward, bound_fits}
use Rattle.table.proofs.FindLaws.{both, either, pair, orl, orr, same}
use Rattle.table.proofs.Tests.{true_t, never, and_no}
use Rattle.table.proofs.Family.{parent_lower}
use Rattle.table.proofs.Scopes.{under_step, under_zero}
use Rattle.table.proofs.SiftLaws.{around_step, around_none}

module _ (t : List ℕ) where
  nowhere : {A : Type 0} (a n : ℕ) → n ≡ 0 → T (under_last t a n) → A
  nowhere a n z u = absurd (subst T (ap (under_last t a) z ∙ under_zero t a) u)

  -- what is in the body of a let that is in the body of another is in that one's too
  enclosed : (k a b n : ℕ) → n ≤ k → T (under_last t b a) → T (under_last t a n) → T (under_last t b n)
  enclosed zero a b n h x y = let z : n ≡ 0 = omega arith in nowhere a n z y
  enclosed (suc k) a b n h x y = go (ℕ_discrete n 0) (λ m l u. enclosed k a b m l x u)
    where
      up : 1 ≤ n → T (under_last t b (parent t n)) → T (under_last t b n)
      up i u = subst T (sym (under_step t b n i)) (orr (eqb (parent t n) b && eqb (next t n) 0) (under_last t b (parent t n)) u)

      go : Dec (n ≡ 0) → ((m : ℕ) → m ≤ k → T (under_last t a m) → T (under_last t b m)) → T (under_last t b n)
      go (yes z) f = nowhere a n z y
      go (no z) f =
          let i : 1 ≤ n = omega arith in
          ⊎_elim (λ e. up i (subst (λ m. T (under_last t b m)) (sym (eqb→eq (parent t n) a (both (eqb (parent t n) a) (eqb
          (next t n) 0) e).0)) x))
          (λ u. up i (f (parent t n) (omega (arith, parent_lower t n i)) u))
          (either (eqb (parent t n) a && eqb (next t n) 0) (under_last t a (parent t n)) (subst T (under_step t a n i) y))

  -- n is in the body of the innermost let around it
  around_under : (k n : ℕ) → n ≤ k → Encloses t (around t n) n
  around_under zero n h z = absurd (z (ap (around t) (omega arith) ∙ around_none t))
  around_under (suc k) n h z = go (ℕ_discrete n 0) (λ m l. around_under k m l)
    where
      outer : around t n ≡ around t (parent t n) → Encloses t (around t (parent t n)) (parent t n)
          → T ((eqb (parent t n) (around t n) && eqb (next t n) 0) || under_last t (around t n) (parent t n))
      outer e f = orr (eqb (parent t n) (around t n) && eqb (next t n) 0) (under_last t (around t n) (parent t n))
          (subst (λ m. T (under_last t m (parent t n))) (sym e) (f (λ q. z (e ∙ q))))

      by : 1 ≤ n → (b c : Bool) → eqb (kind t (parent t n)) 6 ≡ b → eqb (next t n) 0 ≡ c
          → around t n ≡ pick (b && c) (parent t n) (around t (parent t n)) → Encloses t (around t (parent t n)) (parent t n)
          → T ((eqb (parent t n) (around t n) && eqb (next t n) 0) || under_last t (around t n) (parent t n))
      by i true true eb ec e f = orl (eqb (parent t n) (around t n) && eqb (next t n) 0) (under_last t (around t n) (parent t n))
          (pair (eqb (parent t n) (around t n)) (eqb (next t n) 0)
          (same (parent t n) (around t n) (sym e)) (true_t (eqb (next t n) 0) ec))
      by i true false eb ec e f = outer e f
      by i false c eb ec e f = outer e f

      go : Dec (n ≡ 0) → ((m : ℕ) → m ≤ k → Encloses t (around t m) m) → T (under_last t (around t n) n)
      go (yes y) f = absurd (z (ap (around t) y ∙ around_none t))
      go (no y) f =
          let i : 1 ≤ n = omega arith in
          subst T (sym (under_step t (around t n) n i))
          (by i (eqb (kind t (parent t n)) 6) (eqb (next t n) 0) refl refl (around_step t n i)
          (f (parent t n) (omega (arith, parent_lower t n i))))

  pub outward : (a b : ℕ) → b ≡ around t a → Outward t a b
  outward a b e n f y = go (ℕ_discrete a 0)
    where
      go : Dec (a ≡ 0) → T (under_last t b n)
      go (yes z) = absurd (y (e ∙ ap (around t) z ∙ around_none t))
      go (no z) = enclosed n a b n (omega arith)
          (subst (λ m. T (under_last t m a)) (sym e) (around_under a a (omega arith) (λ q. y (e ∙ q)))) (f z)

  pub first_around : (n : ℕ) → Encloses t (around t n) n
  first_around n = around_under n n (omega arith)

  -- what hands down that it is a let is one
  pub is_let_lem : (p : ℕ) → (one (is_let t p) ≡ 0 → ⊥) → kind t p ≡ 6
  is_let_lem p e = go (ℕ_discrete (kind t p) 6)
    where
      go : Dec (kind t p ≡ 6) → kind t p ≡ 6
      go (yes k) = k
      go (no k) = absurd (e (ap (λ b. one (not (eqb p 0) && b)) (ne_eqb (kind t p) 6 k) ∙ ap one (and_no (not (eqb p 0)))))

  pub in_scope_lem : (d n p : ℕ) → p ≡ parent t d → (p ≡ 0 → ⊥) → kind t p ≡ 6 → (next t d ≡ 0 → ⊥) → T (under_last t p n)
      → T (in_scope t d n)
  unfolding in_scope definiens
  in_scope_lem d n p e z k l u =
      pair (definiens t d) (under_last t (parent t d) n) of_let (subst (λ q. T (under_last t q n)) e u)
    where
      of_let : T (definiens t d)
      of_let = rw (
        ne_eqb (parent t d) 0 (λ q. z (e ∙ q)),
        eq-eqb (kind t (parent t d)) 6 (ap (kind t) (sym e)
            ∙ k),
        ne_eqb (next t d) 0 l,
      ) tt

-- a let among the four innermost
pub one_of : (t : List ℕ) (n a b c d p : ℕ) → a ≡ around t n → b ≡ around t a → c ≡ around t b → d ≡ around t c
    → (a ≡ p) ⊎ ((b ≡ p) ⊎ ((c ≡ p) ⊎ (d ≡ p))) → Encloses t p n
one_of t n a b c d p ea eb ec ed h = at h
  where
    A : Encloses t a n
    A = subst (λ m. Encloses t m n) (sym ea) (first_around t n)

    B : Encloses t b n
    B = outward t a b eb n A

    C : Encloses t c n
    C = outward t b c ec n B

    at : (a ≡ p) ⊎ ((b ≡ p) ⊎ ((c ≡ p) ⊎ (d ≡ p))) → Encloses t p n
    at (inl e) = subst (λ m. Encloses t m n) e A
    at (inr (inl e)) = subst (λ m. Encloses t m n) e B
    at (inr (inr (inl e))) = subst (λ m. Encloses t m n) e C
    at (inr (inr (inr e))) = subst (λ m. Encloses t m n) e (outward t c d ed n C)

pub one_further : (t : List ℕ) (n a b c d p : ℕ) → a ≡ around t n → b ≡ around t a → c ≡ around t b → d ≡ around t c
    → Outward t d p → Encloses t p n
one_further t n a b c d p ea eb ec ed o = o n (one_of t n a b c d d ea eb ec ed (inr (inr (inr refl))))

pub four_hits : (a b c d p x y z w : ℕ) → x ≡ one (eqb a p) → y ≡ one (eqb b p) → z ≡ one (eqb c p) → w ≡ one (eqb d p)
    → not (eqb (x + y + z + w) 0) ≡ true → (a ≡ p) ⊎ ((b ≡ p) ⊎ ((c ≡ p) ⊎ (d ≡ p)))
four_hits a b c d p x y z w ex ey ez ew h = go (ℕ_discrete a p) (ℕ_discrete b p) (ℕ_discrete c p) (ℕ_discrete d p)
  where
    go : Dec (a ≡ p) → Dec (b ≡ p) → Dec (c ≡ p) → Dec (d ≡ p) → (a ≡ p) ⊎ ((b ≡ p) ⊎ ((c ≡ p) ⊎ (d ≡ p)))
    go (yes e) k l m = inl e
    go (no e) (yes f) l m = inr (inl f)
    go (no e) (no f) (yes g) m = inr (inr (inl g))
    go (no e) (no f) (no g) (yes k) = inr (inr (inr k))
    go (no e) (no f) (no g) (no k) =
        let i = ex ∙ ap one (ne_eqb a p e) in
        let j = ey ∙ ap one (ne_eqb b p f) in
        let l = ez ∙ ap one (ne_eqb c p g) in
        let m = ew ∙ ap one (ne_eqb d p k) in
        never (sym (ap not (eq-eqb (x + y + z + w) 0 (omega (arith, i, j, l, m)))) ∙ h)

-- a bound that is in scope fits
pub bound_in : (t : List ℕ) (n : ℕ) → T (in_scope t (word t n) n) → T (bound_fits t n)
unfolding bound_fits
bound_in t n h = orr (not (eqb (kind t n) 7)) (in_scope t (word t n) n) h
