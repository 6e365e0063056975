-- what is claimed of the sheet, sentence by sentence of the request, beside its definition: shown in proofs/Theorems
use Rattle.std.specs.Prelude.{ℕ, suc, ◌+◌, ◌-◌, ◌*◌, ◌/◌, ◌%◌, ◌≤◌, ◌<◌, ◌≡◌, true, List, [], ◌∷◌, ◌++◌, eqb, length, get_or, take, drop}
use Rattle.table.specs.Pick.{pick}
use Rattle.table.specs.Find.{one}
use Rattle.list.specs.declared.Record.{Record}
use Rattle.list.specs.Tags.{listed}
use Rattle.list.specs.Records.{no_record, record_at, records_of}
use Rattle.pages.specs.Rows.{Row, title, gap, entry, resource, due, rows_of}
use Rattle.pages.specs.Lines.{spaces, RES, CALL, NODE, PAGE, right, line_of}
use Rattle.pages.specs.Sheet.{sheet_of, sheet_bytes, room, sheet_over}

-- row i, from 0; past the last a line of spaces
abbrev pub row_at : List Row → ℕ → Row
row_at rows i = get_or rows i gap

-- the calls on the rows, from the top
unfoldable pub entries_of : List Row → List Record
entries_of [] = []
entries_of (title p ∷ rows) = entries_of rows
entries_of (gap ∷ rows) = entries_of rows
entries_of (entry r ∷ rows) = r ∷ entries_of rows

-- a page that ends with k lines of spaces, its last call being of `last`, 0 for none, had no room for the call after the next title: the
-- lines of spaces due before that call, and the call's own line, are more than k
abbrev pub NoRoom : (last k : ℕ) → List Row → Type 0
NoRoom last k [] = ⊥
NoRoom last k (title p ∷ rows) = ⊥
NoRoom last k (gap ∷ rows) = ⊥
NoRoom last k (entry r ∷ rows) = k < due last (resource r) + 1

-- rows read from the top, where the k rows before are lines of spaces and the call before them is of `last`, 0 for none on the page:
-- before a call stand the lines of spaces that are due and no more, and a page begins only where the next call had no room
abbrev pub Spaced : (last k : ℕ) → List Row → Type 0
Spaced last k [] = Unit {0}
Spaced last k (title p ∷ rows) = NoRoom last k rows × Spaced 0 0 rows
Spaced last k (gap ∷ rows) = Spaced last (suc k) rows
Spaced last k (entry r ∷ rows) = (k ≡ due last (resource r)) × Spaced (resource r) 0 rows

-- there is a first row, and the rows after it are spaced so
abbrev pub SpacedPages : List Row → Type 0
SpacedPages [] = ⊥
SpacedPages (row ∷ rows) = Spaced 0 0 rows

-- these rows are pages of 24 rows with these calls, in this order: a title where a page begins, with the page's number, and nowhere else
pub record Laid (rs : List Record) (rows : List Row) : Type 0 where
  pub whole : length rows % 24 ≡ 0
  pub titled : (i : ℕ) → i < length rows → i % 24 ≡ 0 → row_at rows i ≡ title (i / 24 + 1)
  pub untitled : (i p : ℕ) → row_at rows i ≡ title p → i % 24 ≡ 0
  pub spaced : SpacedPages rows
  pub ordered : entries_of rows ≡ rs

-- 32 printable characters, then a line feed
pub record Line (s : List ℕ) : Type 0 where
  pub size : length s ≡ 33
  pub shown : (i : ℕ) → i < 32 → (32 ≤ get_or s i 0) × (get_or s i 0 < 127)
  pub ended : get_or s 32 0 ≡ 10

-- the characters in columns from `low` to `high`, columns being counted from 1
abbrev pub columns : (low high : ℕ) → List ℕ → List ℕ
columns low high s = take (high + 1 - low) (drop (low - 1) s)

-- the number that columns say, a space counting as a 0
unfoldable pub number_in : (before : ℕ) → List ℕ → ℕ
number_in v [] = v
number_in v (c ∷ s) = number_in (10 * v + pick (eqb c 32) 0 (c - 48)) s

-- a row whose numbers four columns can tell
abbrev pub Told : Row → Type 0
Told (title p) = p < 10000
Told gap = Unit {0}
Told (entry r) = (r.callee.0 < 10000) × (r.caller.0 < 10000) × (r.node.0 < 10000)

-- the lines
pub record LinesShow : Type 0 where
  pub line : (row : Row) → Line (line_of row)
  pub title_words_lem : (p : ℕ)
      → (columns 2 4 (line_of (title p)) ≡ RES) × (columns 9 12 (line_of (title p)) ≡ CALL)
      × (columns 17 20 (line_of (title p)) ≡ NODE) × (columns 23 26 (line_of (title p)) ≡ PAGE)
  pub title_number : (p : ℕ) → columns 29 32 (line_of (title p)) ≡ right p
  pub call_numbers : (r : Record)
      → (columns 1 4 (line_of (entry r)) ≡ right r.callee.0) × (columns 9 12 (line_of (entry r)) ≡ right r.caller.0)
      × (columns 17 20 (line_of (entry r)) ≡ right r.node.0)
  -- the other columns are blank
  pub title_blanks : (p : ℕ)
      → (columns 1 1 (line_of (title p)) ≡ spaces 1) × (columns 5 8 (line_of (title p)) ≡ spaces 4)
      × (columns 13 16 (line_of (title p)) ≡ spaces 4) × (columns 21 22 (line_of (title p)) ≡ spaces 2)
      × (columns 27 28 (line_of (title p)) ≡ spaces 2)
  pub call_blanks : (r : Record)
      → (columns 5 8 (line_of (entry r)) ≡ spaces 4) × (columns 13 16 (line_of (entry r)) ≡ spaces 4)
      × (columns 21 32 (line_of (entry r)) ≡ spaces 12)
  pub gap_blanks : columns 1 32 (line_of gap) ≡ spaces 32
  -- four columns tell every number below 10000, its last digit in the last of them, and no zero stands before its first
  pub read_back : (n : ℕ) → n < 10000 → number_in 0 (right n) ≡ n
  pub unpadded : (n : ℕ)
      → (n < 1000 → columns 1 1 (right n) ≡ spaces 1) × (n < 100 → columns 1 2 (right n) ≡ spaces 2)
      × (n < 10 → columns 1 3 (right n) ≡ spaces 3)
  -- a line is that of one row alone
  pub apart : (a b : Row) → Told a → Told b → line_of a ≡ line_of b → a ≡ b

-- how many of the records are of node n
unfoldable pub times_of : ℕ → List Record → ℕ
times_of n [] = 0
times_of n (r ∷ rs) = one (eqb r.node.0 n) + times_of n rs

-- the sheet of an accepted table
pub record SheetStands (t : List ℕ) : Type 0 where
  -- its rows are laid out as asked for, and no others are; where nothing is listed there is one page
  pub laid : Laid (records_of t) (rows_of (records_of t))
  pub only : (rows : List Row) → Laid (records_of t) rows → rows ≡ rows_of (records_of t)
  pub empty : records_of t ≡ [] → length (rows_of (records_of t)) ≡ 24
  -- its bytes are those of `sheet_of`, line after line
  pub bytes : sheet_bytes t ≡ sheet_of t
  pub size : length (sheet_of t) ≡ 33 * length (rows_of (records_of t))
  pub lines : (i : ℕ) → i < length (rows_of (records_of t)) → take 33 (drop (33 * i) (sheet_of t))
      ≡ line_of (row_at (rows_of (records_of t)) i)
  -- each listed call is on it once, and no other; what is said of a call are its callee, its function and its node, and its line tells them
  pub once : (n : ℕ) → times_of n (entries_of (rows_of (records_of t))) ≡ one (listed t n)
  pub call : (i : ℕ) → i < length (records_of t)
      → let r = get_or (records_of t) i no_record in (r ≡ record_at t r.node.0) × (listed t r.node.0 ≡ true) × Told (entry r)
  -- at most 24 pages, for which the text has room
  pub few : length (rows_of (records_of t)) ≤ 24 * 24
  pub over : (text : List ℕ) → length text ≡ room → sheet_over t text ≡ sheet_of t ++ drop (length (sheet_of t)) text
