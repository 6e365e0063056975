-- bytes written over a text from a place on (`sets`): a part copied over, one part after another, and inside what was written
use Prim.Native.Nat.{ℕ, zero, suc, ◌+◌, ◌≤◌, ◌<◌}
use mathlib.Core.Path.{◌≡◌, refl, sym, ap, subst, ◌∙◌}
use mathlib.Core.List.{List, [], ◌∷◌, ◌++◌, append_assoc}
use native.Mathlib.Omega.{arith}
use native.Mathlib.Nat.{not-suc-le-zero, le_of_suc-le-suc, suc-add}
use lib.ListN.{length, set, take, drop, length-set}
use borrow.Rule.Slice.PartMut.{put_mid}
use lib.Seq.{drop-drop, sets, sets-eq, set-set, set_comm, set-append_left}

module _ {A : Type 0} where
  -- one list after another
  pub sets_append : (l : List A) (i : ℕ) (a b : List A) → sets l i (a ++ b) ≡ sets (sets l i a) (i + length a) b
  sets_append l i [] b = ap (λ k. sets l k b) (plain i)
    where
      plain : (i : ℕ) → i ≡ i + 0
      plain i = omega arith
  sets_append l i (x ∷ a) b = sets_append (set l i x) (suc i) a b ∙ ap (λ k. sets (sets (set l i x) (suc i) a) k b) (next i (length a))
    where
      next : (i k : ℕ) → suc i + k ≡ i + suc k
      next i k = omega arith

  -- a part of a list that was copied over
  pub copied_over : (l a : List A) (i k : ℕ) → k ≡ length a → i + length a ≤ length l → put_mid i k l a ≡ sets l i a
  copied_over l a i k e h =
      ap (λ (r : List A). take i l ++ (a ++ r)) (drop-drop k i l ∙ ap (λ j. drop (i + j) l) e)
      ∙ sym (append_assoc (take i l) a (drop (i + length a) l)) ∙ sym (sets-eq a l i h)

  -- a place before those written can be set first
  set_ahead : (l : List A) (i k : ℕ) (a : List A) (x : A) → k < i → set (sets l i a) k x ≡ sets (set l k x) i a
  set_ahead l i k [] x h = refl
  set_ahead l i k (y ∷ a) x h = set_ahead (set l i y) (suc i) k a x (omega arith)
      ∙ ap (λ m. sets m (suc i) a) (set_comm l i k y x (λ e. omega (arith, e)))

  -- one of them anew
  set_in : (l : List A) (i j : ℕ) (a : List A) (x : A) → j < length a → set (sets l i a) (i + j) x ≡ sets l i (set a j x)
  set_in l i j [] x h = absurd (not-suc-le-zero h)
  set_in l i zero (y ∷ a) x h =
      ap (λ k. set (sets (set l i y) (suc i) a) k x) (plain i) ∙ set_ahead (set l i y) (suc i) i a x (omega arith)
      ∙ ap (λ m. sets m (suc i) a) (set-set l i y x)
    where
      plain : (i : ℕ) → i + 0 ≡ i
      plain i = omega arith
  set_in l i (suc j) (y ∷ a) x h =
      ap (λ k. set (sets (set l i y) (suc i) a) k x) (next i j) ∙ set_in (set l i y) (suc i) j a x (le_of_suc-le-suc h)
    where
      next : (i j : ℕ) → i + suc j ≡ suc i + j
      next i j = omega arith

  -- writing inside what was written is writing into it
  pub sets_in_lem : (l : List A) (i j : ℕ) (a b : List A) → j + length b ≤ length a → sets (sets l i a) (i + j) b ≡ sets l i (sets a j b)
  sets_in_lem l i j a [] h = refl
  sets_in_lem l i j a (x ∷ b) h =
      ap (λ m. sets m (suc (i + j)) b) (set_in l i j a x (omega arith))
      ∙ ap (λ k. sets (sets l i (set a j x)) k b) (next i j)
      ∙ sets_in_lem l i (suc j) (set a j x) b (subst (λ k. suc j + length b ≤ k) (sym (length-set a j x)) (shift h))
    where
      next : (i j : ℕ) → suc (i + j) ≡ i + suc j
      next i j = omega arith

      shift : j + suc (length b) ≤ length a → suc j + length b ≤ length a
      shift h = omega arith

  -- past the front of a list, and short of its end
  set_after : (p q : List A) (j : ℕ) (x : A) → set (p ++ q) (length p + j) x ≡ p ++ set q j x
  set_after [] q j x = ap (λ k. set q k x) (plain j)
    where
      plain : (j : ℕ) → 0 + j ≡ j
      plain j = omega arith
  set_after (y ∷ p) q j x = ap (λ k. set (y ∷ p ++ q) k x) (suc-add (length p) j) ∙ ap (λ (m : List A). y ∷ m) (set_after p q j x)

  sets_after : (p q : List A) (j : ℕ) (b : List A) → sets (p ++ q) (length p + j) b ≡ p ++ sets q j b
  sets_after p q j [] = refl
  sets_after p q j (x ∷ b) =
      ap (λ m. sets m (suc (length p + j)) b) (set_after p q j x) ∙ ap (λ k. sets (p ++ set q j x) k b) (next (length p) j)
      ∙ sets_after p (set q j x) (suc j) b
    where
      next : (i j : ℕ) → suc (i + j) ≡ i + suc j
      next i j = omega arith

  sets_before : (p q : List A) (j : ℕ) (b : List A) → j + length b ≤ length p → sets (p ++ q) j b ≡ sets p j b ++ q
  sets_before p q j [] h = refl
  sets_before p q j (x ∷ b) h =
      ap (λ m. sets m (suc j) b) (set-append_left p q j x (omega arith))
      ∙ sets_before (set p j x) q (suc j) b (subst (λ k. suc j + length b ≤ k) (sym (length-set p j x)) (shift h))
    where
      shift : j + suc (length b) ≤ length p → suc j + length b ≤ length p
      shift h = omega arith

  -- in the middle part of a list
  pub sets_within : (p m q : List A) (i j : ℕ) (b : List A) → length p ≡ i → j + length b ≤ length m
      → sets (p ++ (m ++ q)) (i + j) b ≡ p ++ (sets m j b ++ q)
  sets_within p m q i j b e h =
      ap (λ k. sets (p ++ (m ++ q)) (k + j) b) (sym e) ∙ sets_after p (m ++ q) j b ∙ ap (λ (r : List A). p ++ r) (sets_before m q j b h)

  -- from the front
  pub sets_front : (l a : List A) → length a ≤ length l → sets l 0 a ≡ a ++ drop (length a) l
  sets_front l a h = sets-eq a l 0 (subst (λ k. k ≤ length l) (plain (length a)) h) ∙ ap (λ k. a ++ drop k l) (sym (plain (length a)))
    where
      plain : (n : ℕ) → n ≡ 0 + n
      plain n = omega arith
