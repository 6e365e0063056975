-- the loops over a tag list: whether a bit past the last node is set, the lowest node whose tag does not fit, and the total
use Rattle.std.proofs.Common.{◌≡◌, ℕ, zero, suc, ◌+◌, ◌-◌, ◌/◌, ◌%◌, ◌^◌, ◌<◌, ◌≤◌, Bool, true, false, eqb, Option}
use Rattle.std.proofs.Common.{None, Some, List, [], ◌∷◌, length, get_or, take}
use Rattle.std.proofs.Common.{sym, refl, ap, ◌∙◌, le_of_suc-le-suc, not-suc-le-zero, add-one, arith}
use native.Mathlib.Nat.{mod-add-mod}
use lib.Count.{ones}
use Rattle.table.specs.declared.Node.{Node}
use Rattle.table.specs.Find.{lowest, all}
use Rattle.table.proofs.Loops.{lowest_more, lowest_found}
use Rattle.list.specs.Arbiters.{Test}
use Rattle.list.specs.Tags.{found, tagged, bits_set}

-- none of 0 fails
pub all_none : (p : Test) → all p 0 ≡ true
unfolding all
all_none p = refl

pub lowest_none : (p : Test) → lowest p 0 ≡ 0
unfolding lowest
lowest_none p = refl

-- a search among the numbers up to m that has come to n: the node is found there, or the search goes on; or it has passed all
module _ (p : Test) (n m : ℕ) (low : 1 ≤ n) (h : lowest p (n - 1) ≡ 0) where
  back : n - 1 + 1 ≡ n
  back = omega arith

  pub found_here : n ≤ m → p n ≡ false → Some (record { 0 = n }) ≡ found (lowest p m)
  found_here l e =
      some n low ∙ ap found (sym (lowest_found p (n - 1) m h (ap p back ∙ e) (omega arith) ∙ back))
    where
      some : (n : ℕ) → 1 ≤ n → ◌≡◌ {A = Option Node} (Some (record { 0 = n })) (found n)
      some zero l = absurd (omega arith)
      some (suc n) l = refl

  pub passed_here : p n ≡ true → lowest p (n + 1 - 1) ≡ 0
  passed_here e = ap (lowest p) (omega arith) ∙ lowest_more p (n - 1) h (ap p back ∙ e)

-- what was found is the number, which is not 0; nothing was found where it is 0
pub found_is : (m : ℕ) (n : Node) → Some n ≡ found m → (n.0 ≡ m) × (m ≡ 0 → ⊥)
found_is zero n e = absurd (let z : ◌≡◌ {A = ℕ} 0 1 = cc in omega arith)
found_is (suc m) n e = let q : n ≡ record { 0 = suc m } = cc in (ap (λ x. x.0) q, λ z. omega (arith, z))

pub found_not : (m : ℕ) → None ≡ found m → m ≡ 0
found_not zero e = refl
found_not (suc m) e = absurd (let z : ◌≡◌ {A = ℕ} 0 1 = cc in omega arith)

pub found_none : (p : Test) (m : ℕ) → lowest p m ≡ 0 → None ≡ found (lowest p m)
found_none p m e = ap found (sym e)

-- the total, byte by byte
pub total_none : (s : List ℕ) → bits_set (take 0 s) ≡ 0
unfolding bits_set
total_none s = refl

total_suc : (s : List ℕ) (i : ℕ) → i < length s → bits_set (take (suc i) s) ≡ bits_set (take i s) + ones (get_or s i 0)
unfolding bits_set
total_suc [] i h = absurd (not-suc-le-zero h)
total_suc (x ∷ s) zero h = alone (ones x)
  where
    alone : (a : ℕ) → a + 0 ≡ 0 + a
    alone a = omega arith
total_suc (x ∷ s) (suc i) h = ap (λ k. ones x + k) (total_suc s i (le_of_suc-le-suc h)) ∙ shift (ones x) _ _
  where
    shift : (a b c : ℕ) → a + (b + c) ≡ (a + b) + c
    shift a b c = omega arith

pub total_more : (s : List ℕ) (i : ℕ) → i < length s → bits_set (take (i + 1) s) ≡ bits_set (take i s) + ones (get_or s i 0)
total_more s i h = rw add-one (total_suc s i h)

-- a sum that wraps
pub wrap_more : (a b m : ℕ) → (a % m + b) % m ≡ (a + b) % m
wrap_more a b m = mod-add-mod a m b

-- bit i is the tag of node i + 1
pub bit_is : (tags : List ℕ) (n i : ℕ) (b : Bool) → n ≡ suc i → b ≡ eqb (get_or tags (i / 8) 0 / 2 ^ (i % 8) % 2) 1 → b ≡ tagged tags n
unfolding tagged
bit_is tags n i b e f = f ∙ ap (tagged tags) (sym e)
