-- what is read of the state's lists after they were written
use Prim.Native.Nat.{ℕ, zero, suc, ◌+◌, ◌-◌, ◌*◌, ◌/◌, ◌%◌, ◌≤◌, ◌<◌}
use mathlib.Core.Bool.{Bool, true, false}
use mathlib.Core.Path.{◌≡◌, refl, subst, sym, ap, ◌∙◌}
use mathlib.Core.Logic.{◌⊎◌, inl, inr, ⊎_elim}
use mathlib.Core.List.{List, [], ◌∷◌}
use native.Mathlib.Omega.{arith}
use native.Mathlib.Decide.{ℕ_discrete}
use lib.Dec.{eqb, ltb}
use lib.ListN.{length, get_or, set, length-set, get_or-eq_default}
use lib.Seq.{get_or-set_same, get_or-set_other}
use borrow.Author.Tests.{eq-eqb, ne_eqb, ltb-true, ltb-false, lt-ltb}
use native.Mathlib.Nat.{add-suc, suc-add}
use Rattle.table.specs.Pick.{pick}
use Rattle.rules.specs.State.{entry, write, register, alter, fill, clear, opened, In}

-- entry n is at n - 1
pub entry_at : {A : Type 0} (l : List A) (d : A) (n : ℕ) → 1 ≤ n → entry l d n ≡ get_or l (n - 1) d
unfolding entry
entry_at l d zero h = absurd (omega arith)
entry_at l d (suc n) h = ap (λ i. get_or l i d) (place n)
  where
    place : (n : ℕ) → n ≡ suc n - 1
    place n = omega arith

pub write_at : {A : Type 0} (l : List A) (n : ℕ) (a : A) → 1 ≤ n → write l n a ≡ set l (n - 1) a
unfolding write
write_at l zero a h = absurd (omega arith)
write_at l (suc n) a h = ap (λ i. set l i a) (place n)
  where
    place : (n : ℕ) → n ≡ suc n - 1
    place n = omega arith

-- register i of function f is at 8 * (f - 1) + i
pub register_at : (l : List ℕ) (f i : ℕ) → 1 ≤ f → i < 8 → register l f i ≡ get_or l (8 * (f - 1) + i) 0
unfolding register
register_at l zero i p q = absurd (omega arith)
register_at l (suc f) i p q = ap (λ b. pick b (get_or l (8 * f + i) 0) 0) (lt-ltb i 8 q) ∙ ap (λ k. get_or l k 0) (place f)
  where
    place : (f : ℕ) → 8 * f + i ≡ 8 * (suc f - 1) + i
    place f = omega arith

module _ {A : Type 0} where
  pub length_write : (l : List A) (n : ℕ) (a : A) → length (write l n a) ≡ length l
  unfolding write
  length_write l zero a = refl
  length_write l (suc n) a = length-set l n a

  pub entry_same : (l : List A) (n : ℕ) (a d : A) → 1 ≤ n → n ≤ length l → entry (write l n a) d n ≡ a
  unfolding entry write
  entry_same l zero a d p q = absurd (omega arith)
  entry_same l (suc n) a d p q = get_or-set_same l n a d q

  pub entry_other : (l : List A) (n m : ℕ) (a d : A) → (m ≡ n → ⊥) → entry (write l n a) d m ≡ entry l d m
  unfolding entry write
  entry_other l zero m a d e = refl
  entry_other l (suc n) zero a d e = refl
  entry_other l (suc n) (suc m) a d e = get_or-set_other l n m a d (λ p. e (ap suc p))

  module _ (f : ℕ → A → A) where
    pub length_alter : (k : ℕ) (l : List A) → length (alter f k l) ≡ length l
    unfolding alter
    length_alter k [] = refl
    length_alter k (x ∷ xs) = ap suc (length_alter (suc k) xs)

    plus_zero : (k : ℕ) → k ≡ k + 0
    plus_zero k = omega arith

    pub get_d_alter : (k : ℕ) (l : List A) (i : ℕ) (d : A) → i < length l → get_or (alter f k l) i d ≡ f (k + i) (get_or l i d)
    unfolding alter
    get_d_alter k [] i d h = absurd (omega arith)
    get_d_alter k (x ∷ xs) zero d h = ap (λ j. f j x) (plus_zero k)
    get_d_alter k (x ∷ xs) (suc i) d h = get_d_alter (suc k) xs i d (omega arith)
        ∙ ap (λ j. f j (get_or xs i d)) (suc-add k i ∙ sym (add-suc k i))

    -- what f leaves as it is
    pub get_d_altered : (k : ℕ) (l : List A) (i : ℕ) (d : A) → ((x : A) → f (k + i) x ≡ x) → get_or (alter f k l) i d ≡ get_or l i d
    unfolding alter
    get_d_altered k [] i d h = refl
    get_d_altered k (x ∷ xs) zero d h = ap (λ j. f j x) (plus_zero k) ∙ h x
    get_d_altered k (x ∷ xs) (suc i) d h = get_d_altered (suc k) xs i d (λ y. ap (λ j. f j y) (suc-add k i ∙ sym (add-suc k i)) ∙ h y)

one_plus : (n : ℕ) → suc n ≡ 1 + n
one_plus n = omega arith

module _ {A : Type 0} (mine : ℕ → Bool) (d : A) (l : List A) where
  pub length_clear : length (clear mine d l) ≡ length l
  unfolding clear
  length_clear = length_alter (λ n x. pick (mine n) d x) 1 l

  pub clear_mine : (n : ℕ) → mine n ≡ true → 1 ≤ n → n ≤ length l → entry (clear mine d l) d n ≡ d
  unfolding clear entry
  clear_mine zero e p q = refl
  clear_mine (suc n) e p q = get_d_alter (λ n x. pick (mine n) d x) 1 l n d q
      ∙ ap (λ b. pick b d (get_or l n d)) (ap mine (sym (one_plus n)) ∙ e)

  pub clear_other : (n : ℕ) → (1 ≤ n → mine n ≡ false) → entry (clear mine d l) d n ≡ entry l d n
  unfolding clear entry
  clear_other zero e = refl
  clear_other (suc n) e = get_d_altered (λ n x. pick (mine n) d x) 1 l n d
      (λ x. ap (λ b. pick b d x) (ap mine (sym (one_plus n)) ∙ e (omega arith)))

-- position 8 * f + i holds register i of function f + 1
place_function : (f i : ℕ) → i < 8 → (0 + (8 * f + i)) / 8 + 1 ≡ suc f
place_function f i h = omega arith

place_register : (f i : ℕ) → i < 8 → (0 + (8 * f + i)) % 8 ≡ i
place_register f i h = omega arith

abbrev refilled : ℕ → List ℕ → ℕ → ℕ → ℕ
refilled g vs k r = pick (eqb (k / 8 + 1) g) (get_or vs (k % 8) 0) r

module _ (g : ℕ) (vs l : List ℕ) where
  pub length_fill : length (fill g vs l) ≡ length l
  unfolding fill
  length_fill = length_alter (refilled g vs) 0 l

  pub fill_mine : (i : ℕ) → 1 ≤ g → g ≤ 32 → length l ≡ 256 → length vs ≤ 8 → register (fill g vs l) g i ≡ get_or vs i 0
  unfolding fill register
  fill_mine i p q r h = go g refl p q
    where
      small : (f : ℕ) → suc f ≡ g → f < 32 → i < 8 → get_or (alter (refilled g vs) 0 l) (8 * f + i) 0 ≡ get_or vs i 0
      small f e q b =
          get_d_alter (refilled g vs) 0 l (8 * f + i) 0 (omega (arith, q, b, r))
          ∙ ap (λ c. pick c (get_or vs ((0 + (8 * f + i)) % 8) 0) (get_or l (8 * f + i) 0)) (eq-eqb _ g (place_function f i b ∙ e))
          ∙ ap (λ j. get_or vs j 0) (place_register f i b)

      by : (f : ℕ) → suc f ≡ g → f < 32 → (b : Bool) → ltb i 8 ≡ b → pick b
          (get_or (alter (refilled g vs) 0 l) (8 * f + i) 0) 0 ≡ get_or vs i 0
      by f e q true b = small f e q (ltb-true i 8 b)
      by f e q false b = sym (get_or-eq_default vs 0 (omega (arith, ltb-false i 8 b)))

      go : (f : ℕ) → f ≡ g → 1 ≤ f → f ≤ 32 → register (alter (refilled g vs) 0 l) f i ≡ get_or vs i 0
      go zero e p q = absurd (omega arith)
      go (suc f) e p q = by f e q (ltb i 8) refl

  pub fill_other : (f i : ℕ) → (f ≡ g → ⊥) → register (fill g vs l) f i ≡ register l f i
  unfolding fill register
  fill_other zero i e = refl
  fill_other (suc f) i e = go (ltb i 8) refl
    where
      go : (b : Bool) → ltb i 8 ≡ b → pick b (get_or (alter (refilled g vs) 0 l) (8 * f + i) 0) 0 ≡ pick b (get_or l (8 * f + i) 0) 0
      go true b =
          get_d_altered (refilled g vs) 0 l (8 * f + i) 0
          (λ r. ap (λ c. pick c (get_or vs ((0 + (8 * f + i)) % 8) 0) r)
          (ne_eqb _ g (λ p. e (sym (place_function f i (ltb-true i 8 b)) ∙ p))))
      go false b = refl

pub in? : (n : ℕ) (ns : List ℕ) → Dec (In n ns)
in? n [] = no (λ z. z)
in? n (m ∷ ms) = go (ℕ_discrete n m) (in? n ms)
  where
    go : Dec (n ≡ m) → Dec (In n ms) → Dec ((n ≡ m) ⊎ In n ms)
    go (yes e) d = yes (inl e)
    go (no e) (yes i) = yes (inr i)
    go (no e) (no i) = no (⊎_elim e i)

pub length_opened : (l ns : List ℕ) → length (opened l ns) ≡ length l
unfolding opened
length_opened l [] = refl
length_opened l (n ∷ ns) = length_opened (write l n 1) ns ∙ length_write l n 1

pub opened_other : (l ns : List ℕ) (m : ℕ) → (In m ns → ⊥) → entry (opened l ns) 0 m ≡ entry l 0 m
unfolding opened
opened_other l [] m d = refl
opened_other l (n ∷ ns) m d = opened_other (write l n 1) ns m (λ i. d (inr i)) ∙ entry_other l n m 1 0 (λ e. d (inl e))

pub opened_in : (l ns : List ℕ) (m : ℕ) → 1 ≤ m → m ≤ length l → In m ns → entry (opened l ns) 0 m ≡ 1
unfolding opened
opened_in l [] m p q i = absurd i
opened_in l (n ∷ ns) m p q i = go (in? m ns) i (λ x y. opened_in (write l n 1) ns m p x y)
  where
    q' : m ≤ length (write l n 1)
    q' = omega (arith, length_write l n 1)

    go : Dec (In m ns) → (m ≡ n) ⊎ In m ns → (m ≤ length (write l n 1) → In m ns → entry (opened (write l n 1) ns) 0 m ≡ 1)
        → entry (opened (write l n 1) ns) 0 m ≡ 1
    go (yes i) j ih = ih q' i
    go (no i) (inl e) ih = opened_other (write l n 1) ns m i ∙ subst (λ x. entry (write l x 1) 0 m ≡ 1) e (entry_same l m 1 0 p q)
    go (no i) (inr j) ih = absurd (i j)
