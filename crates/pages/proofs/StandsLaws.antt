-- the printing, call by call: what stands is the sheet of the calls so far, and the rest of the sheet goes on from there
use Prim.Native.Nat.{ℕ, ◌+◌, ◌-◌, ◌*◌, ◌≤◌, ◌<◌}
use mathlib.Core.Path.{◌≡◌, refl, sym, ap, ap₂, ◌∙◌}
use mathlib.Core.List.{List, [], ◌∷◌, ◌++◌, append_assoc}
use native.Mathlib.Omega.{arith}
use lib.ListN.{length, length-append, length-replicate, replicate-append-replicate}
use lib.Seq.{sets}
use Rattle.std.specs.Prelude.{Some, None}
use Rattle.list.specs.declared.Record.{Record}
use Rattle.pages.specs.declared.layout.Reached.{Reached}
use Rattle.pages.specs.Rows.{Row, title, gap, entry, gaps, resource, due, rows_after, rows_of}
use Rattle.pages.specs.Lines.{lines_of}
use Rattle.pages.specs.Working.{call_over, number_of, Called, Roomy, Stands}
use Rattle.pages.proofs.RowLaws.{called_first, called_rest, rows_end, rows_on, rows_new}
use Rattle.pages.proofs.BoundLaws.{rows_least}
use Rattle.pages.proofs.RowTexts.{lines_size, rows_over, call_over_lem}

-- the first page, with its title alone
pub stands_first : (all : List Record) → Called all → (text₀ text : List ℕ)
    → text ≡ sets text₀ (792 * 0) (lines_of (title (0 + 1) ∷ gaps 23))
    → Stands all all text₀ text (record { pages = 1; rows = 1; last = None })
unfolding rows_of
stands_first all called text₀ text e = record {
  named = tt;
  called = called;
  done = title 1 ∷ [];
  count = refl;
  within = omega arith;
  onward = refl;
  written = e;
}

module _ (all rest : List Record) (text₀ text : List ℕ) (w : Reached) (r : Record) (s : Stands all (r ∷ rest) text₀ text w) where
  abbrev d : ℕ
  d = due (number_of w.last) (resource r)

  abbrev left : ℕ
  left = 24 * w.pages - w.rows

  -- the call stays on the page
  module _ (row : ℕ) (e : row ≡ w.rows + d) (h : row < 24 * w.pages) (text' : List ℕ) (q : text' ≡ call_over text (33 * row) r) where
    abbrev after : ℕ
    after = 24 * w.pages - (row + 1)

    -- the rows so far and the lines of spaces before the call
    abbrev before : List Row
    before = s.done ++ gaps d

    before_size : length before ≡ row
    before_size = length-append s.done (gaps d) ∙ ap₂ (λ a b. a + b) s.count (length-replicate d gap) ∙ sym e

    split : s.done ++ gaps left ≡ before ++ gap ∷ gaps after
    split =
        ap (λ k. s.done ++ gaps k) (parts w.pages w.rows d row e h)
        ∙ ap (λ g. s.done ++ g) (sym (replicate-append-replicate d (1 + after) gap))
        ∙ sym (append_assoc s.done (gaps d) (gaps (1 + after))) ∙ ap (λ g. before ++ g) (sym (replicate-append-replicate 1 after gap))
      where
        parts : (p n d row : ℕ) → row ≡ n + d → row < 24 * p → 24 * p - n ≡ d + (1 + (24 * p - (row + 1)))
        parts p n d row e h = omega arith

    pub stands_on : Stands all rest text₀ text' (record { pages = w.pages; rows = row + 1; last = Some r.callee })
    stands_on = record {
      named = called_first s.called;
      called = called_rest s.called;
      done = before ++ entry r ∷ [];
      count = length-append before (entry r ∷ []) ∙ ap (λ k. k + 1) before_size;
      within = omega (arith, h);
      onward =
          append_assoc before (entry r ∷ []) (rows_after w.pages after (resource r) rest)
          ∙ append_assoc s.done (gaps d) (entry r ∷ rows_after w.pages after (resource r) rest)
          ∙ ap (λ k. s.done ++ (gaps d ++ entry r ∷ rows_after w.pages k (resource r) rest)) (less w.pages w.rows d row e)
          ∙ ap (λ g. s.done ++ g) (sym (rows_on w.pages left (number_of w.last) r rest (fits w.pages w.rows d row e h))) ∙ s.onward;
      written =
          q ∙ ap (λ k. call_over text (33 * k) r) (sym before_size)
          ∙ call_over_lem text₀ text before (gaps after) r (s.written ∙ ap (λ g. sets text₀ 0 (lines_of g)) split)
          ∙ ap (λ g. sets text₀ 0 (lines_of g)) (sym (append_assoc before (entry r ∷ []) (gaps after)));
    }
      where
        less : (p n d row : ℕ) → row ≡ n + d → 24 * p - (row + 1) ≡ 24 * p - n - (d + 1)
        less p n d row e = omega arith

        fits : (p n d row : ℕ) → row ≡ n + d → row < 24 * p → d + 1 ≤ 24 * p - n
        fits p n d row e h = omega arith

  -- or it is the first of a new page
  module _ (h : 24 * w.pages ≤ w.rows + d) where
    none : left < d + 1
    none = omega (arith, h)

    abbrev full : List Row
    full = s.done ++ gaps left

    full_size : length full ≡ 24 * w.pages
    full_size = length-append s.done (gaps left) ∙ ap₂ (λ a b. a + b) s.count (length-replicate left gap)
        ∙ whole w.pages w.rows s.within
      where
        whole : (p n : ℕ) → n ≤ 24 * p → n + (24 * p - n) ≡ 24 * p
        whole p n h = omega arith

    rest_of : full ++ title (w.pages + 1) ∷ entry r ∷ rows_after (w.pages + 1) 22 (resource r) rest ≡ rows_of all
    rest_of =
        append_assoc s.done (gaps left) (title (w.pages + 1) ∷ entry r ∷ rows_after (w.pages + 1) 22 (resource r) rest)
        ∙ ap (λ g. s.done ++ g) (sym (rows_new w.pages left (number_of w.last) r rest none)) ∙ s.onward

    module _ (text₁ text' : List ℕ) (b : text₁ ≡ sets text (792 * w.pages) (lines_of (title (w.pages + 1) ∷ gaps 23)))
        (q : text' ≡ call_over text₁ (33 * (24 * w.pages + 1)) r) where
      abbrev titled : List Row
      titled = full ++ title (w.pages + 1) ∷ []

      titled_size : length titled ≡ 24 * w.pages + 1
      titled_size = length-append full (title (w.pages + 1) ∷ []) ∙ ap (λ k. k + 1) full_size

      begun : text₁ ≡ sets text₀ 0 (lines_of (titled ++ gap ∷ gaps 22))
      begun =
          b ∙ ap (λ k. sets text k (lines_of (title (w.pages + 1) ∷ gaps 23))) (place w.pages (length full) full_size)
          ∙ rows_over text₀ text 0 full (title (w.pages + 1) ∷ gaps 23) s.written
          ∙ ap (λ g. sets text₀ 0 (lines_of g)) (sym (append_assoc full (title (w.pages + 1) ∷ []) (gaps 23)))
        where
          place : (p n : ℕ) → n ≡ 24 * p → 792 * p ≡ 0 + 33 * n
          place p n e = omega arith

      pub stands_new : Stands all rest text₀ text' (record { pages = w.pages + 1; rows = 24 * w.pages + 2; last = Some r.callee })
      stands_new = record {
        named = called_first s.called;
        called = called_rest s.called;
        done = titled ++ entry r ∷ [];
        count = length-append titled (entry r ∷ []) ∙ ap (λ k. k + 1) titled_size ∙ two (24 * w.pages);
        within = omega arith;
        onward =
            append_assoc titled (entry r ∷ []) (rows_after (w.pages + 1) after (resource r) rest)
            ∙ append_assoc full (title (w.pages + 1) ∷ []) (entry r ∷ rows_after (w.pages + 1) after (resource r) rest)
            ∙ ap (λ k. full ++ title (w.pages + 1) ∷ entry r ∷ rows_after (w.pages + 1) k (resource r) rest) (lines w.pages) ∙ rest_of;
        written =
            q ∙ ap (λ k. call_over text₁ (33 * k) r) (sym titled_size) ∙ call_over_lem text₀ text₁ titled (gaps 22) r begun
            ∙ ap (λ g. sets text₀ 0 (lines_of g)) (sym (append_assoc titled (entry r ∷ []) (gaps 22)))
            ∙ ap (λ k. sets text₀ 0 (lines_of ((titled ++ entry r ∷ []) ++ gaps k))) (sym (lines w.pages));
      }
        where
          after : ℕ
          after = 24 * (w.pages + 1) - (24 * w.pages + 2)

          lines : (p : ℕ) → 24 * (p + 1) - (24 * p + 2) ≡ 22
          lines p = omega arith

          two : (n : ℕ) → n + 1 + 1 ≡ n + 2
          two n = omega arith

    -- so there is one page more on the whole sheet
    one_more_lem : 24 * w.pages + 24 ≤ length (rows_of all)
    one_more_lem = omega (
      arith,
      ap length rest_of,
      length-append full (title (w.pages + 1) ∷ entry r ∷ rows_after (w.pages + 1) 22 (resource r) rest),
      full_size,
      rows_least (w.pages + 1) 22 (resource r) rest,
    )

-- the pages begun are on the sheet
pub begun_fit : (all rest : List Record) (text₀ text : List ℕ) (w : Reached) → Stands all rest text₀ text w
    → 24 * w.pages ≤ length (rows_of all)
begun_fit all rest text₀ text w s =
    let left = 24 * w.pages - w.rows in
    omega (
      arith,
      ap length s.onward,
      length-append s.done (rows_after w.pages left (number_of w.last) rest),
      s.count,
      s.within,
      rows_least w.pages left (number_of w.last) rest,
    )

-- the next call has a row on a sheet of 24 pages
pub stands_roomy : (all rest : List Record) (text₀ text : List ℕ) (w : Reached) (r : Record) → Stands all (r ∷ rest) text₀ text w
    → length (rows_of all) ≤ 576 → Roomy w r
stands_roomy all rest text₀ text w r s few = record {
  named = s.named;
  within = s.within;
  paged = omega (arith, begun_fit all (r ∷ rest) text₀ text w s, few);
  more = λ h. omega (arith, one_more_lem all rest text₀ text w r s h, few);
}

-- where no call is left, all of the sheet stands
module _ (all : List Record) (text₀ text : List ℕ) (w : Reached) (s : Stands all [] text₀ text w) where
  last_rows : s.done ++ gaps (24 * w.pages - w.rows) ≡ rows_of all
  last_rows = ap (λ g. s.done ++ g) (sym (rows_end w.pages (24 * w.pages - w.rows) (number_of w.last))) ∙ s.onward

  pub stands_all : text ≡ sets text₀ 0 (lines_of (rows_of all))
  stands_all = s.written ∙ ap (λ g. sets text₀ 0 (lines_of g)) last_rows

  pub all_size : 792 * w.pages ≡ length (lines_of (rows_of all))
  all_size = omega (
    arith,
    lines_size (rows_of all),
    ap length last_rows,
    length-append s.done (gaps (24 * w.pages - w.rows)),
    length-replicate (24 * w.pages - w.rows) gap,
    s.count,
    s.within,
  )
