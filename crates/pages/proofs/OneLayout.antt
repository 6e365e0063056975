-- rows that are laid out as asked for are those of the definition: nothing is left open
use Prim.Native.Nat.{ℕ, suc, ◌+◌, ◌-◌, ◌*◌, ◌/◌, ◌%◌, ◌≤◌, ◌<◌}
use mathlib.Core.Path.{◌≡◌, refl, sym, subst, ap, ap₂, ◌∙◌}
use mathlib.Core.List.{List, [], ◌∷◌, ◌++◌, append-nil, append_assoc}
use native.Mathlib.Omega.{arith}
use native.Mathlib.Decide.{dec_lt}
use lib.ListN.{length}
use Rattle.list.specs.declared.Record.{Record}
use Rattle.pages.specs.Rows.{Row, title, gap, entry, gaps, resource, due, rows_after, rows_of}
use Rattle.pages.specs.Layout.{entries_of, Spaced, SpacedPages, Laid}
use Rattle.pages.proofs.RowLaws.{rows_end, rows_on, rows_new}
use Rattle.pages.proofs.RowTexts.{gaps_more}
use Rattle.pages.proofs.Titles.{Numbered, numbered_by}

-- k of the lines left on a page have been read, q pages standing before it: the rows from there on go on as the definition says
record Read (q left k last : ℕ) (rows : List Row) : Type 0 where
  some : left ≤ 23
  read : k ≤ left
  placed : Numbered (24 * q + (24 - left) + k) rows
  spaced : Spaced last k rows
  whole : (24 * q + (24 - left) + k + length rows) % 24 ≡ 0

-- a row that is no title is on the page
inside : (q left k : ℕ) → k ≤ left → left ≤ 23 → ((24 * q + (24 - left) + k) % 24 ≡ 0 → ⊥) → k + 1 ≤ left
inside q left k h l n = go (dec_lt k left)
  where
    go : Dec (k < left) → k + 1 ≤ left
    go (yes e) = omega (arith, e)
    go (no e) = absurd (n (omega (arith, e, h, l)))

-- one that is a title begins the next
at_end : (q left k : ℕ) → k ≤ left → left ≤ 23 → (24 * q + (24 - left) + k) % 24 ≡ 0 → k ≡ left
at_end q left k h l e = omega arith

onward : (rows : List Row) (q left k last : ℕ) → Read q left k last rows
    → gaps k ++ rows ≡ rows_after (q + 1) left last (entries_of rows)
unfolding entries_of
onward [] q left k last x =
    append-nil (gaps k) ∙ ap gaps (at_end q left k x.read x.some (omega (arith, x.whole))) ∙ sym (rows_end (q + 1) left last)
onward (gap ∷ rows) q left k last x =
    sym (append_assoc (gaps k) (gap ∷ []) rows) ∙ ap (λ g. g ++ rows) (sym (gaps_more k))
    ∙ onward rows q left (k + 1) last (record {
      some = x.some;
      read = inside q left k x.read x.some x.placed.0;
      placed = subst (λ i. Numbered i rows) (next (24 * q + (24 - left)) k) x.placed.1;
      spaced = subst (λ i. Spaced last i rows) (one k) x.spaced;
      whole = omega (arith, x.whole);
    })
  where
    next : (i k : ℕ) → suc (i + k) ≡ i + (k + 1)
    next i k = omega arith

    one : (k : ℕ) → suc k ≡ k + 1
    one k = omega arith
onward (entry r ∷ rows) q left k last x =
    let d = due last (resource r) in
    let e : k ≡ d = x.spaced.0 in
    let fits : d + 1 ≤ left = subst (λ i. i + 1 ≤ left) e (inside q left k x.read x.some x.placed.0) in
    ap₂ (λ i l. gaps i ++ entry r ∷ l) e (onward rows q (left - (d + 1)) 0 (resource r) (record {
      some = omega (arith, x.some);
      read = omega arith;
      placed = subst (λ i. Numbered i rows) (next q left k d e fits x.some) x.placed.1;
      spaced = x.spaced.1;
      whole = omega (arith, x.whole, e, fits, x.some);
    }))
    ∙ sym (rows_on (q + 1) left last r (entries_of rows) fits)
  where
    next : (q left k d : ℕ) → k ≡ d → d + 1 ≤ left → left ≤ 23 → suc (24 * q + (24 - left) + k) ≡ 24 * q + (24 - (left - (d + 1))) + 0
    next q left k d e h l = omega arith
onward (title p ∷ []) q left k last x = absurd x.spaced.0
onward (title p ∷ title p' ∷ rows) q left k last x = absurd x.spaced.0
onward (title p ∷ gap ∷ rows) q left k last x = absurd x.spaced.0
onward (title p ∷ entry r ∷ rows) q left k last x =
    let d = due last (resource r) in
    let e : k ≡ left = at_end q left k x.read x.some x.placed.0.0 in
    let none : left < d + 1 = subst (λ i. i < d + 1) e x.spaced.0 in
    let number : p ≡ q + 1 + 1 = x.placed.0.1 ∙ page q left k e x.some in
    ap₂ (λ i j. gaps i ++ title j ∷ entry r ∷ rows) e number
    ∙ ap (λ l. gaps left ++ title (q + 1 + 1) ∷ entry r ∷ l) (onward rows (q + 1) 22 0 (resource r) (record {
      some = omega arith;
      read = omega arith;
      placed = subst (λ i. Numbered i rows) (next q left k e x.some) x.placed.1.1;
      spaced = x.spaced.1.1;
      whole = omega (arith, x.whole, e, x.some);
    }))
    ∙ sym (rows_new (q + 1) left last r (entries_of rows) none)
  where
    page : (q left k : ℕ) → k ≡ left → left ≤ 23 → (24 * q + (24 - left) + k) / 24 + 1 ≡ q + 1 + 1
    page q left k e l = omega arith

    next : (q left k : ℕ) → k ≡ left → left ≤ 23 → suc (suc (24 * q + (24 - left) + k)) ≡ 24 * (q + 1) + (24 - 22) + 0
    next q left k e l = omega arith

-- the first row is the first title
pub only_rows : (rs : List Record) (rows : List Row) → Laid rs rows → rows ≡ rows_of rs
unfolding rows_of entries_of
only_rows rs rows l = go rows l.spaced numbered l.whole l.ordered
  where
    plain : (i : ℕ) → 0 + i ≡ i
    plain i = omega arith

    numbered : Numbered 0 rows
    numbered =
        numbered_by 0 rows
        (λ i h e. l.titled i h (ap (λ k. k % 24) (sym (plain i)) ∙ e) ∙ ap (λ k. title (k / 24 + 1)) (sym (plain i)))
        (λ i p e. ap (λ k. k % 24) (plain i) ∙ l.untitled i p e)

    go : (rows : List Row) → SpacedPages rows → Numbered 0 rows → length rows % 24 ≡ 0 → entries_of rows ≡ rs
        → rows ≡ title 1 ∷ rows_after 1 23 0 rs
    go [] s n w e = absurd s
    go (gap ∷ rows) s n w e = absurd (n.0 refl)
    go (entry r ∷ rows) s n w e = absurd (n.0 refl)
    go (title p ∷ rows) s n w e =
        ap₂ (λ i l. title i ∷ l) n.0.1 (onward rows 0 23 0 0 (record {
          some = omega arith;
          read = omega arith;
          placed = n.1;
          spaced = s;
          whole = omega (arith, w);
        }) ∙ ap (rows_after 1 23 0) e)
