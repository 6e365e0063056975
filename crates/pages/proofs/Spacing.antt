-- the lines of spaces and the pages' ends, read from the top; the calls in their order
use Prim.Native.Nat.{ℕ, zero, suc, ◌+◌, ◌-◌, ◌<◌}
use mathlib.Core.Path.{◌≡◌, refl, sym, subst, ap, ◌∙◌}
use mathlib.Core.List.{List, [], ◌∷◌, ◌++◌, append-nil}
use native.Mathlib.Omega.{arith}
use native.Mathlib.Decide.{dec_lt}
use Rattle.list.specs.declared.Record.{Record}
use Rattle.pages.specs.Rows.{Row, gaps, resource, due, rows_after, rows_of}
use Rattle.pages.specs.Layout.{entries_of, Spaced, SpacedPages}
use Rattle.pages.proofs.RowLaws.{due_first, rows_end, rows_on, rows_new}

-- k lines of spaces, and n more of them
spaced_gaps : (last k n : ℕ) (rows : List Row) → Spaced last (k + n) rows → Spaced last k (gaps n ++ rows)
spaced_gaps last k zero rows s = subst (λ i. Spaced last i rows) (plain k) s
  where
    plain : (k : ℕ) → k + 0 ≡ k
    plain k = omega arith
spaced_gaps last k (suc n) rows s = spaced_gaps last (suc k) n rows (subst (λ i. Spaced last i rows) (next k n) s)
  where
    next : (k n : ℕ) → k + suc n ≡ suc k + n
    next k n = omega arith

spaced_after : (page left last : ℕ) (rs : List Record) → Spaced last 0 (rows_after page left last rs)
spaced_after page left last [] =
    subst (Spaced last 0) (append-nil (gaps left) ∙ sym (rows_end page left last)) (spaced_gaps last 0 left [] tt)
spaced_after page left last (r ∷ rs) = go (dec_lt left (due last (resource r) + 1))
    (spaced_after page (left - (due last (resource r) + 1)) (resource r) rs) (spaced_after (page + 1) 22 (resource r) rs)
  where
    go : Dec (left < due last (resource r) + 1)
        → Spaced (resource r) 0 (rows_after page (left - (due last (resource r) + 1)) (resource r) rs)
        → Spaced (resource r) 0 (rows_after (page + 1) 22 (resource r) rs)
        → Spaced last 0 (rows_after page left last (r ∷ rs))
    go (yes l) _ s =
        subst (Spaced last 0) (sym (rows_new page left last r rs l))
        (spaced_gaps last 0 left _ (subst (λ k. k < due last (resource r) + 1) (plain left) l, (due_first (resource r), s)))
      where
        plain : (k : ℕ) → k ≡ 0 + k
        plain k = omega arith
    go (no l) s _ =
        subst (Spaced last 0) (sym (rows_on page left last r rs (omega (arith, l))))
        (spaced_gaps last 0 (due last (resource r)) _ (plain (due last (resource r)), s))
      where
        plain : (k : ℕ) → 0 + k ≡ k
        plain k = omega arith

pub rows_spaced : (rs : List Record) → SpacedPages (rows_of rs)
unfolding rows_of
rows_spaced rs = spaced_after 1 23 0 rs

-- the calls
entries_gaps : (n : ℕ) (rows : List Row) → entries_of (gaps n ++ rows) ≡ entries_of rows
unfolding entries_of
entries_gaps zero rows = refl
entries_gaps (suc n) rows = entries_gaps n rows

entries_after : (page left last : ℕ) (rs : List Record) → entries_of (rows_after page left last rs) ≡ rs
unfolding entries_of
entries_after page left last [] =
    ap entries_of (rows_end page left last ∙ sym (append-nil (gaps left))) ∙ entries_gaps left []
entries_after page left last (r ∷ rs) = go (dec_lt left (due last (resource r) + 1))
    (entries_after page (left - (due last (resource r) + 1)) (resource r) rs) (entries_after (page + 1) 22 (resource r) rs)
  where
    go : Dec (left < due last (resource r) + 1)
        → entries_of (rows_after page (left - (due last (resource r) + 1)) (resource r) rs) ≡ rs
        → entries_of (rows_after (page + 1) 22 (resource r) rs) ≡ rs
        → entries_of (rows_after page left last (r ∷ rs)) ≡ r ∷ rs
    go (yes l) _ e = ap entries_of (rows_new page left last r rs l) ∙ entries_gaps left _ ∙ ap (λ l. r ∷ l) e
    go (no l) e _ =
        ap entries_of (rows_on page left last r rs (omega (arith, l))) ∙ entries_gaps (due last (resource r)) _ ∙ ap (λ l. r ∷ l) e

pub rows_entries : (rs : List Record) → entries_of (rows_of rs) ≡ rs
unfolding rows_of entries_of
rows_entries rs = entries_after 1 23 0 rs
