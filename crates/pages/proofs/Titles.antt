-- where titles stand: said row by row along the rows, and of row i
use Prim.Native.Nat.{ℕ, zero, suc, ◌+◌, ◌-◌, ◌*◌, ◌/◌, ◌%◌, ◌≤◌, ◌<◌}
use mathlib.Core.Path.{◌≡◌, refl, sym, subst, ap, ◌∙◌}
use mathlib.Core.List.{List, [], ◌∷◌, ◌++◌, append-nil}
use native.Mathlib.Omega.{arith}
use native.Mathlib.Decide.{dec_lt}
use native.Mathlib.Nat.{not-suc-le-zero, le_of_suc-le-suc}
use lib.ListN.{length}
use Rattle.list.specs.declared.Record.{Record}
use Rattle.pages.specs.Rows.{Row, title, gap, entry, gaps, resource, due, rows_after, rows_of}
use Rattle.pages.specs.Layout.{row_at}
use Rattle.pages.proofs.RowLaws.{rows_end, rows_on, rows_new}

-- what may be row `at`: a title with its page's number where a page begins, and nowhere else
abbrev pub Placed : (at : ℕ) → Row → Type 0
Placed at (title p) = (at % 24 ≡ 0) × (p ≡ at / 24 + 1)
Placed at gap = at % 24 ≡ 0 → ⊥
Placed at (entry r) = at % 24 ≡ 0 → ⊥

-- rows from row `at` on
abbrev pub Numbered : (at : ℕ) → List Row → Type 0
Numbered at [] = Unit {0}
Numbered at (row ∷ rows) = Placed at row × Numbered (suc at) rows

-- lines of spaces that begin no page: q pages and m rows stand before them
gaps_numbered : (q m k : ℕ) (rows : List Row) → 1 ≤ m → m + k ≤ 24 → Numbered (24 * q + (m + k)) rows
    → Numbered (24 * q + m) (gaps k ++ rows)
gaps_numbered q m zero rows l h n = subst (λ i. Numbered (24 * q + i) rows) (plain m) n
  where
    plain : (m : ℕ) → m + 0 ≡ m
    plain m = omega arith
gaps_numbered q m (suc k) rows l h n = (
  λ e. omega (arith, e, l, h),
  subst (λ i. Numbered i (gaps k ++ rows)) (next q m)
      (gaps_numbered q (m + 1) k rows (omega arith) (omega (arith, h)) (subst (λ i. Numbered (24 * q + i) rows) (shift m k) n)),
)
  where
    next : (q m : ℕ) → 24 * q + (m + 1) ≡ suc (24 * q + m)
    next q m = omega arith

    shift : (m k : ℕ) → m + suc k ≡ m + 1 + k
    shift m k = omega arith

after_numbered : (q left last : ℕ) (rs : List Record) → left ≤ 23 → Numbered (24 * q + (24 - left)) (rows_after (q + 1) left last rs)
after_numbered q left last [] h =
    subst (Numbered (24 * q + (24 - left))) (append-nil (gaps left) ∙ sym (rows_end (q + 1) left last))
    (gaps_numbered q (24 - left) left [] (omega (arith, h)) (omega (arith, h)) tt)
after_numbered q left last (r ∷ rs) h = go (dec_lt left (due last (resource r) + 1))
    (λ l. after_numbered q (left - (due last (resource r) + 1)) (resource r) rs (omega (arith, h, l)))
    (after_numbered (q + 1) 22 (resource r) rs (omega arith))
  where
    go : Dec (left < due last (resource r) + 1)
        → (due last (resource r) + 1 ≤ left → Numbered (24 * q + (24 - (left - (due last (resource r) + 1))))
        (rows_after (q + 1) (left - (due last (resource r) + 1)) (resource r) rs))
        → Numbered (24 * (q + 1) + (24 - 22)) (rows_after (q + 1 + 1) 22 (resource r) rs)
        → Numbered (24 * q + (24 - left)) (rows_after (q + 1) left last (r ∷ rs))
    go (yes l) _ n =
        subst (Numbered (24 * q + (24 - left))) (sym (rows_new (q + 1) left last r rs l))
        (gaps_numbered q (24 - left) left _ (omega (arith, h)) (omega (arith, h)) (
          (omega (arith, h), omega (arith, h)),
          (λ e. omega (arith, e, h), subst (λ i. Numbered i (rows_after (q + 1 + 1) 22 (resource r) rs)) (second q left h) n),
        ))
      where
        second : (q left : ℕ) → left ≤ 23 → 24 * (q + 1) + (24 - 22) ≡ suc (suc (24 * q + (24 - left + left)))
        second q left h = omega arith
    go (no l) n _ =
        let fits : due last (resource r) + 1 ≤ left = omega (arith, l) in
        subst (Numbered (24 * q + (24 - left))) (sym (rows_on (q + 1) left last r rs fits))
        (gaps_numbered q (24 - left) (due last (resource r)) _ (omega (arith, h)) (omega (arith, h, fits)) (
          λ e. omega (arith, e, h, fits),
          subst (λ i. Numbered i (rows_after (q + 1) (left - (due last (resource r) + 1)) (resource r) rs))
              (next q left (due last (resource r)) h fits) (n fits),
        ))
      where
        next : (q left d : ℕ) → left ≤ 23 → d + 1 ≤ left → 24 * q + (24 - (left - (d + 1))) ≡ suc (24 * q + (24 - left + d))
        next q left d h l = omega arith

pub rows_numbered : (rs : List Record) → Numbered 0 (rows_of rs)
unfolding rows_of
rows_numbered rs = ((refl, refl), after_numbered 0 23 0 rs (omega arith))

-- of row i
abbrev number : Row → ℕ
number (title p) = p
number gap = 0
number (entry r) = 0

gap_title : (p : ℕ) → gap ≡ title p → ⊥
gap_title p e = let z : ◌≡◌ {A = ℕ} 0 1 = cc in omega arith

entry_title : (r : Record) (p : ℕ) → entry r ≡ title p → ⊥
entry_title r p e = let z : ◌≡◌ {A = ℕ} 0 1 = cc in omega arith

next_row : (at i : ℕ) → suc at + i ≡ at + suc i
next_row at i = omega arith

first_row : (at : ℕ) → at ≡ at + 0
first_row at = omega arith

pub titled_at : (at : ℕ) (rows : List Row) → Numbered at rows → (i : ℕ) → i < length rows → (at + i) % 24 ≡ 0
    → row_at rows i ≡ title ((at + i) / 24 + 1)
titled_at at [] n i h e = absurd (not-suc-le-zero h)
titled_at at (row ∷ rows) n zero h e = here row n.0
  where
    here : (row : Row) → Placed at row → row ≡ title ((at + 0) / 24 + 1)
    here (title p) q = ap title (q.1 ∙ ap (λ k. k / 24 + 1) (first_row at))
    here gap q = absurd (q (omega (arith, e)))
    here (entry r) q = absurd (q (omega (arith, e)))
titled_at at (row ∷ rows) n (suc i) h e =
    titled_at (suc at) rows n.1 i (le_of_suc-le-suc h) (ap (λ k. k % 24) (next_row at i) ∙ e)
    ∙ ap (λ k. title (k / 24 + 1)) (next_row at i)

pub untitled_at : (at : ℕ) (rows : List Row) → Numbered at rows → (i p : ℕ) → row_at rows i ≡ title p → (at + i) % 24 ≡ 0
untitled_at at [] n i p e = absurd (gap_title p e)
untitled_at at (row ∷ rows) n zero p e = ap (λ k. k % 24) (sym (first_row at)) ∙ here row n.0 e
  where
    here : (row : Row) → Placed at row → row ≡ title p → at % 24 ≡ 0
    here (title p') q e = q.0
    here gap q e = absurd (gap_title p e)
    here (entry r) q e = absurd (entry_title r p e)
untitled_at at (row ∷ rows) n (suc i) p e = ap (λ k. k % 24) (sym (next_row at i)) ∙ untitled_at (suc at) rows n.1 i p e

-- and back
pub numbered_by : (at : ℕ) (rows : List Row)
    → ((i : ℕ) → i < length rows → (at + i) % 24 ≡ 0 → row_at rows i ≡ title ((at + i) / 24 + 1))
    → ((i p : ℕ) → row_at rows i ≡ title p → (at + i) % 24 ≡ 0) → Numbered at rows
numbered_by at [] f g = tt
numbered_by at (row ∷ rows) f g = (
  here row (λ e. f 0 (omega arith) (ap (λ k. k % 24) (sym (first_row at)) ∙ e)) (λ p e. ap (λ k. k % 24) (first_row at) ∙ g 0 p e),
  numbered_by (suc at) rows
      (λ i h e. f (suc i) (omega (arith, h)) (ap (λ k. k % 24) (sym (next_row at i)) ∙ e)
      ∙ ap (λ k. title (k / 24 + 1)) (sym (next_row at i)))
      (λ i p e. ap (λ k. k % 24) (next_row at i) ∙ g (suc i) p e),
)
  where
    here : (row : Row) → (at % 24 ≡ 0 → row ≡ title ((at + 0) / 24 + 1)) → ((p : ℕ) → row ≡ title p → at % 24 ≡ 0) → Placed at row
    here (title p) f g = (g p refl, ap number (f (g p refl)) ∙ ap (λ k. k / 24 + 1) (sym (first_row at)))
    here gap f g = λ e. gap_title ((at + 0) / 24 + 1) (f e)
    here (entry r) f g = λ e. entry_title r ((at + 0) / 24 + 1) (f e)
