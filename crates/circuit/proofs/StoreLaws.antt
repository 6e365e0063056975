-- entry 0: it reads as the default, and a write there keeps all
use Rattle.std.proofs.Common.{◌≡◌, ℕ, zero, suc, ◌+◌, ◌*◌, ◌<◌, List, get_or, sym, refl, ap, arith, le-ltb}
use Rattle.table.specs.Pick.{pick}
use Rattle.rules.specs.State.{entry, write, register}

module _ {A : Type 0} (l : List A) where
  pub entry_none : (d : A) (n : ℕ) → n ≡ 0 → d ≡ entry l d n
  unfolding entry
  entry_none d n e = rw e refl

  pub write_none : (n : ℕ) (a : A) → n ≡ 0 → l ≡ write l n a
  unfolding write
  write_none n a e = rw e refl

pub register_none : (l : List ℕ) (f i : ℕ) → f ≡ 0 → 0 ≡ register l f i
unfolding register
register_none l f i e = rw e refl

pub register_high : (l : List ℕ) (f i : ℕ) → 7 < i → 0 ≡ register l f i
unfolding register
register_high l zero i h = refl
register_high l (suc f) i h = sym (ap (λ b. pick b (get_or l (8 * f + i) 0) 0) (le-ltb i 8 (omega arith)))
