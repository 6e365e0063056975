-- the theorems on the arbiter sheet, for a reader: of every table that the check accepts. That a text is filled with it is promised in src
use Prim.Native.Nat.{ℕ, ◌+◌, ◌/◌, ◌%◌}
use mathlib.Core.Path.{◌≡◌, refl, sym, ap, ◌∙◌}
use mathlib.Core.Bool.{true}
use mathlib.Core.List.{List, ◌++◌}
use native.Mathlib.Omega.{arith}
use lib.ListN.{length, drop}
use Rattle.table.specs.Check.{check_of, accepted}
use Rattle.table.specs.Working.{Taken}
use Rattle.table.proofs.SurveyLaws.{taken_by}
use Rattle.list.specs.declared.Record.{Record}
use Rattle.list.specs.Tags.{listed}
use Rattle.list.specs.Records.{record_at, records_of}
use Rattle.list.proofs.EachRecord.{each_record, record_small}
use Rattle.pages.specs.Rows.{Row, title, entry, rows_of}
use Rattle.pages.specs.Layout.{times_of, Laid, Told, LinesShow, SheetStands}
use Rattle.pages.specs.Sheet.{sheet_of}
use Rattle.pages.proofs.RowTexts.{lines_size, line_at}
use Rattle.pages.proofs.BoundLaws.{rows_whole, few_pages, empty_page}
use Rattle.pages.proofs.SheetLaws.{bytes_of, over_room}
use Rattle.pages.proofs.Titles.{rows_numbered, titled_at, untitled_at}
use Rattle.pages.proofs.Spacing.{rows_spaced, rows_entries}
use Rattle.pages.proofs.OneLayout as OneLayout
use Rattle.pages.proofs.LineFacts as LineFacts
use Rattle.pages.proofs.Once.{listed_once}

-- 32 characters and a line feed; words and numbers in their columns; no two rows have one line
pub lines_show : LinesShow
lines_show = LineFacts.lines_show

-- the rows of any records are pages of 24 with these calls, spaced as asked for
pub rows_laid : (rs : List Record) → Laid rs (rows_of rs)
rows_laid rs = record {
  whole = rows_whole rs;
  titled = λ i h e.
      titled_at 0 (rows_of rs) (rows_numbered rs) i h (ap (λ k. k % 24) (plain i) ∙ e) ∙ ap (λ k. title (k / 24 + 1)) (plain i);
  untitled = λ i p e. ap (λ k. k % 24) (sym (plain i)) ∙ untitled_at 0 (rows_of rs) (rows_numbered rs) i p e;
  spaced = rows_spaced rs;
  ordered = rows_entries rs;
}
  where
    plain : (i : ℕ) → 0 + i ≡ i
    plain i = omega arith

-- and no others are
pub rows_only : (rs : List Record) (rows : List Row) → Laid rs rows → rows ≡ rows_of rs
rows_only = OneLayout.only_rows

record_told : (t : List ℕ) → Taken t → (n : ℕ) → listed t n ≡ true → Told (entry (record_at t n))
record_told t ok n e =
    let s = record_small t ok n e in
    (omega (arith, s.0), omega (arith, s.1), omega (arith, s.2))

-- the sheet of a table
pub sheet_stands : (t : List ℕ) (F N : ℕ) → check_of t ≡ accepted F N → SheetStands t
unfolding sheet_of
sheet_stands t F N e =
    let ok = (taken_by t F N (sym e)).0 in
    record {
      laid = rows_laid (records_of t);
      only = rows_only (records_of t);
      empty = λ q. ap (λ rs. length (rows_of rs)) q ∙ empty_page;
      bytes = bytes_of t F N e;
      size = lines_size (rows_of (records_of t));
      lines = line_at (rows_of (records_of t));
      once = λ n. ap (times_of n) (rows_entries (records_of t)) ∙ listed_once t ok n;
      call = each_record t (λ r. (r ≡ record_at t r.node.0) × (listed t r.node.0 ≡ true) × Told (entry r))
          (λ n l. (refl, l, record_told t ok n l));
      few = few_pages t ok;
      over = λ text q. over_room t text q ∙ ap (λ b. b ++ drop (length b) text) (bytes_of t F N e);
    }
