-- lists of one length that agree at a place agree there after the same write
use Prim.Native.Nat.{ℕ, zero, suc, ◌+◌, ◌*◌, ◌≤◌, ◌<◌}
use mathlib.Core.Bool.{Bool, true, false}
use mathlib.Core.Path.{◌≡◌, refl, subst, sym, ap, ◌∙◌}
use mathlib.Core.List.{List, [], ◌∷◌}
use native.Mathlib.Omega.{arith}
use native.Mathlib.Decide.{ℕ_discrete}
use lib.Dec.{ltb}
use lib.ListN.{length, get_or, set, length-set, get_or-eq_default}
use lib.Seq.{get_or-set_same, get_or-set_other}
use borrow.Author.Tests.{ltb-true, ltb-false}
use Rattle.table.specs.Pick.{pick}
use Rattle.rules.specs.State.{entry, write, register, alter, fill, clear, opened}
use Rattle.rules.specs.Step.{over}
use Rattle.rules.proofs.StateLaws.{length_write, length_alter, get_d_alter}

-- within the list, or past its end
by_length : {P : Type 0} (i k : ℕ) → (i < k → P) → (k ≤ i → P) → P
by_length {P} i k f g = go (ltb i k) refl
  where
    go : (b : Bool) → ltb i k ≡ b → P
    go true e = f (ltb-true i k e)
    go false e = g (ltb-false i k e)

module _ {A : Type 0} (l l' : List A) (same : length l ≡ length l') where
  set_agree : (n : ℕ) (a d : A) (i : ℕ) → get_or l i d ≡ get_or l' i d → get_or (set l n a) i d ≡ get_or (set l' n a) i d
  set_agree n a d i e = go (ℕ_discrete i n)
    where
      past : (l : List A) → length l ≤ i → get_or (set l n a) i d ≡ d
      past l h = get_or-eq_default (set l n a) d (omega (arith, length-set l n a, h))

      go : Dec (i ≡ n) → get_or (set l n a) i d ≡ get_or (set l' n a) i d
      go (no z) = get_or-set_other l n i a d z ∙ e ∙ sym (get_or-set_other l' n i a d z)
      go (yes z) = by_length i (length l)
          (λ h. ap (λ j. get_or (set l n a) j d) z ∙ get_or-set_same l n a d (subst (λ j. j < length l) z h)
          ∙ sym (get_or-set_same l' n a d (omega (arith, subst (λ j. j < length l) z h, same))) ∙ ap (λ j. get_or (set l' n a) j d) (sym z))
          (λ h. past l h ∙ sym (past l' (omega (arith, same, h))))

  alter_agree : (f : ℕ → A → A) (k i : ℕ) (d : A) → get_or l i d ≡ get_or l' i d → get_or (alter f k l) i d ≡ get_or (alter f k l') i d
  alter_agree f k i d e = by_length i (length l)
      (λ h. get_d_alter f k l i d h ∙ ap (f (k + i)) e ∙ sym (get_d_alter f k l' i d (omega (arith, h, same))))
      (λ h. get_or-eq_default (alter f k l) d (omega (arith, length_alter f k l, h))
      ∙ sym (get_or-eq_default (alter f k l') d (omega (arith, length_alter f k l', h, same))))

  pub write_agree : (n : ℕ) (a d : A) (m : ℕ) → entry l d m ≡ entry l' d m → entry (write l n a) d m ≡ entry (write l' n a) d m
  unfolding entry write
  write_agree zero a d m e = e
  write_agree (suc n) a d zero e = refl
  write_agree (suc n) a d (suc m) e = set_agree n a d m e

  pub clear_agree : (mine : ℕ → Bool) (d : A) (m : ℕ) → entry l d m ≡ entry l' d m
      → entry (clear mine d l) d m ≡ entry (clear mine d l') d m
  unfolding entry clear
  clear_agree mine d zero e = refl
  clear_agree mine d (suc m) e = alter_agree (λ n x. pick (mine n) d x) 1 m d e

pub opened_agree : (l l' ns : List ℕ) → length l ≡ length l' → (m : ℕ) → entry l 0 m ≡ entry l' 0 m
    → entry (opened l ns) 0 m ≡ entry (opened l' ns) 0 m
unfolding opened
opened_agree l l' [] z m e = e
opened_agree l l' (n ∷ ns) z m e = opened_agree (write l n 1) (write l' n 1) ns (length_write l n 1 ∙ z ∙ sym (length_write l' n 1)) m
    (write_agree l l' z n 1 0 m e)

pub fill_agree : (l l' : List ℕ) → length l ≡ length l' → (g : ℕ) (vs : List ℕ) (f i : ℕ) → register l f i ≡ register l' f i
    → register (fill g vs l) f i ≡ register (fill g vs l') f i
unfolding register fill
fill_agree l l' z g vs zero i e = refl
fill_agree l l' z g vs (suc f) i e = go (ltb i 8) e
  where
    go : (b : Bool) → pick b (get_or l (8 * f + i) 0) 0 ≡ pick b (get_or l' (8 * f + i) 0) 0
        → pick b (get_or (fill g vs l) (8 * f + i) 0) 0 ≡ pick b (get_or (fill g vs l') (8 * f + i) 0) 0
    go true e = alter_agree l l' z _ 0 (8 * f + i) 0 e
    go false e = refl

pub over_agree : (limit k : ℕ) (l l' : List ℕ) → ((m : ℕ) → 1 ≤ m → m ≤ k → entry l 0 m ≡ entry l' 0 m) → over limit k l ≡ over limit k l'
unfolding over
over_agree limit zero l l' f = refl
over_agree limit (suc k) l l' f =
    let e = f (suc k) (omega arith) (omega arith) in
    let r = over_agree limit k l l' (λ m p q. f m p (omega arith)) in
    (λ i. pick (ltb limit (e i)) true (r i))
