-- when a tag fits its node, from what was read of the node; and bytes that have no tag
use Rattle.std.proofs.Common.{◌≡◌, ℕ, ◌+◌, ◌-◌, ◌/◌, ◌%◌, ◌*◌, ◌<◌, ◌≤◌, true, false, not, ◌&&◌, ◌||◌, eqb}
use Rattle.std.proofs.Common.{List, get_or, min, T, ap, ◌∙◌, ap₂, arith}
use Rattle.table.specs.Decoded.{cell_at, node_slot}
use Rattle.table.specs.Find.{lowest}
use native.Mathlib.Decide.{dec_le}
use borrow.Author.Tests.{not-true, not-false}
use Rattle.table.proofs.Tests.{or_yes, true_t}
use Rattle.table.proofs.FindLaws.{passes_lowest, lowest_passes}
use Rattle.list.specs.Arbiters.{Test}
use Rattle.list.specs.Working.{bit_at}
use Rattle.list.proofs.BitLaws.{tagged_bit, zero_bit}
use Rattle.list.specs.Tags.{tagged, cell_fits}

module _ (cells tags : List ℕ) (n : ℕ) where
  abbrev kind : ℕ
  kind = cell_at cells (node_slot n) 0

  abbrev callee : ℕ
  callee = cell_at cells (node_slot n) 2

  abbrev owner : ℕ
  owner = cell_at cells (node_slot n) 6

  -- no tag at all fits, and one that is not refused does
  pub untagged : tagged tags n ≡ false → cell_fits cells tags n ≡ true
  unfolding cell_fits
  untagged e = ap (λ b. not b || (eqb kind 4 && not (eqb callee owner))) e

  pub tag_fits : not (eqb kind 4 && not (eqb callee owner)) ≡ false → cell_fits cells tags n ≡ true
  unfolding cell_fits
  tag_fits e = ap (λ b. not (tagged tags n) || b) (not-false _ e) ∙ or_yes (not (tagged tags n))

  pub tag_unfit : tagged tags n ≡ true → not (eqb kind 4 && not (eqb callee owner)) ≡ true → cell_fits cells tags n ≡ false
  unfolding cell_fits
  tag_unfit e f = ap₂ (λ a b. not a || b) e (not-true _ f)

-- a byte of zeros is no tag at its eight numbers
pub free_byte : (tags : List ℕ) (i : ℕ) → get_or tags i 0 ≡ 0 → (n : ℕ) → 8 * i < n → n ≤ 8 * i + 8 → tagged tags n ≡ false
free_byte tags i z n a b =
    tagged_bit tags n (omega (arith, a)) ∙ ap (λ j. bit_at (get_or tags j 0) ((n - 1) % 8)) (here i n a b)
    ∙ ap (λ x. bit_at x ((n - 1) % 8)) z ∙ zero_bit ((n - 1) % 8)
  where
    here : (i n : ℕ) → 8 * i < n → n ≤ 8 * i + 8 → (n - 1) / 8 ≡ i
    here i n a b = omega arith

-- eight numbers that fit, after those that do, all of them up to N
pub fit_eight : (p : Test) (i N : ℕ) → lowest p (min (8 * i) N) ≡ 0 → ((n : ℕ) → 8 * i < n → n ≤ 8 * i + 8 → p n ≡ true)
    → lowest p (min (8 * (i + 1)) N) ≡ 0
fit_eight p i N h f = passes_lowest p (min (8 * (i + 1)) N) (λ n a b. go n a b (dec_le n (8 * i)))
  where
    go : (n : ℕ) → 1 ≤ n → n ≤ min (8 * (i + 1)) N → Dec (n ≤ 8 * i) → T (p n)
    go n a b (yes d) = lowest_passes p (min (8 * i) N) h n a (omega arith)
    go n a b (no d) = true_t (p n) (f n (omega arith) (omega arith))
