-- the rows of the arbiter sheet (document 02, Q-1): what stands on each line of its pages, one page after the other
use Rattle.std.specs.Prelude.{ℕ, ◌+◌, ◌-◌, ◌&&◌, not, List, [], ◌∷◌, ◌++◌, eqb, leb, replicate}
use Rattle.table.specs.Pick.{pick}
use Rattle.list.specs.declared.Record.{Record}

pub data Row : Type 0 where
  -- line 1 of the page with this number
  title : ℕ → Row
  -- a line of spaces
  gap : Row
  -- a call
  entry : Record → Row

abbrev pub gaps : ℕ → List Row
gaps k = replicate k gap

-- the resource of a call: its callee
abbrev pub resource : Record → ℕ
resource r = r.callee.0

-- how many lines of spaces are due before a call of f: one, but not before the first resource of a page, nor where the last call of the
-- page is of f too; `last` is the resource of that call, and 0, which no function has for its number, where the page has no call yet
unfoldable pub due : (last f : ℕ) → ℕ
due last f = pick (not (eqb last 0) && not (eqb last f)) 1 0

-- the rows after those that page `page` has so far, where `left` lines of it are left: a call, with the lines of spaces due before it,
-- stays on the page where it fits; else the page is filled up, and the call is the first of a new one, which has 22 lines left after the
-- title and it; the last page is filled up too
unfoldable pub rows_after : (page left last : ℕ) → List Record → List Row
rows_after page left last [] = gaps left
rows_after page left last (r ∷ rs) =
    let d = due last (resource r) in
    pick (leb (d + 1) left)
    (gaps d ++ entry r ∷ rows_after page (left - (d + 1)) (resource r) rs)
    (gaps left ++ title (page + 1) ∷ entry r ∷ rows_after (page + 1) 22 (resource r) rs)

-- pages have 24 lines, the first of which is the title
unfoldable pub rows_of : List Record → List Row
rows_of rs = title 1 ∷ rows_after 1 23 0 rs
