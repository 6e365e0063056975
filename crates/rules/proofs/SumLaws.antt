-- sums over 1 to k: of a function changed at one number, entry by entry
use Prim.Native.Nat.{ℕ, zero, suc, ◌+◌, ◌≤◌, ◌<◌}
use mathlib.Core.Bool.{Bool, true, false}
use mathlib.Core.Path.{◌≡◌, refl, subst, sym, ap}
use native.Mathlib.Omega.{arith}
use native.Mathlib.Decide.{ℕ_discrete}
use lib.Dec.{eqb, eqb_refl, eqb→eq, T}
use Rattle.table.specs.Environment.{put}
use Rattle.table.specs.Pick.{pick}
use Rattle.table.specs.Find.{total}

pub put_same : (R : ℕ → ℕ) (n v : ℕ) → put R n v n ≡ v
put_same R n v = go (eqb n n) (eqb_refl n)
  where
    go : (b : Bool) → T b → pick b v (R n) ≡ v
    go true t = refl
    go false t = absurd t

pub put_other : (R : ℕ → ℕ) (n v m : ℕ) → (m ≡ n → ⊥) → put R n v m ≡ R m
put_other R n v m d = go (eqb n m) (λ t. d (sym (eqb→eq n m t)))
  where
    go : (b : Bool) → (T b → ⊥) → pick b v (R m) ≡ R m
    go true f = absurd (f tt)
    go false f = refl

sum_past : (k : ℕ) (R : ℕ → ℕ) (n v : ℕ) → k < n → total (put R n v) k ≡ total R k
unfolding total
sum_past zero R n v h = refl
sum_past (suc k) R n v h = omega (arith, put_other R n v (suc k) (λ e. omega (arith, e, h)), sum_past k R n v (omega arith))

pub sum_put : (k : ℕ) (R : ℕ → ℕ) (n v : ℕ) → 1 ≤ n → n ≤ k → total (put R n v) k + R n ≡ total R k + v
unfolding total
sum_put zero R n v a b = absurd (omega arith)
sum_put (suc k) R n v a b = go (ℕ_discrete n (suc k)) (λ c. sum_put k R n v a c)
  where
    go : Dec (n ≡ suc k) → (n ≤ k → total (put R n v) k + R n ≡ total R k + v) → put R n v (suc k) + total (put R n v) k + R n
        ≡ R (suc k) + total R k + v
    go (yes e) f = omega (arith, subst (λ x. put R n v x ≡ v) e (put_same R n v), ap R e, sum_past k R n v (omega (arith, e)))
    go (no d) f = omega (arith, put_other R n v (suc k) (λ e. d (sym e)), f (omega (arith, b, d)))

pub sum_zero : (k : ℕ) → total (λ f. 0) k ≡ 0
unfolding total
sum_zero zero = refl
sum_zero (suc k) = omega (arith, sum_zero k)

-- all but the last are 0
sum_none : (k : ℕ) (R : ℕ → ℕ) → ((f : ℕ) → 1 ≤ f → f ≤ k → R f ≡ 0) → total R k ≡ 0
unfolding total
sum_none zero R h = refl
sum_none (suc k) R h = omega (arith, h (suc k) (omega arith) (omega arith), sum_none k R (λ f a b. h f a (omega arith)))

pub sum_last : (k : ℕ) (R : ℕ → ℕ) → 1 ≤ k → ((f : ℕ) → 1 ≤ f → f < k → R f ≡ 0) → total R k ≡ R k
unfolding total
sum_last zero R a h = absurd (omega arith)
sum_last (suc k) R a h = omega (arith, sum_none k R (λ f p q. h f p (omega arith)))

-- sums over the nodes, entry by entry
pub sum_ext : (k : ℕ) (f g : ℕ → ℕ) → ((c : ℕ) → 1 ≤ c → c ≤ k → f c ≡ g c) → total f k ≡ total g k
unfolding total
sum_ext zero f g h = refl
sum_ext (suc k) f g h = omega (arith, h (suc k) (omega arith) (omega arith), sum_ext k f g (λ c p q. h c p (omega arith)))

pub sum_add : (k : ℕ) (f g h : ℕ → ℕ) → ((c : ℕ) → 1 ≤ c → c ≤ k → f c ≡ g c + h c) → total f k ≡ total g k + total h k
unfolding total
sum_add zero f g h e = refl
sum_add (suc k) f g h e = omega (arith, e (suc k) (omega arith) (omega arith), sum_add k f g h (λ c p q. e c p (omega arith)))
