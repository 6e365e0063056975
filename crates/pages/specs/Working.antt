-- what the parts of the printing ask of each other
use Rattle.std.specs.Prelude.{ℕ, ◌+◌, ◌-◌, ◌*◌, ◌/◌, ◌%◌, ◌≤◌, ◌<◌, ◌≡◌, List, [], ◌∷◌, ◌++◌, length}
use Rattle.std.specs.Prelude.{Option, Some, None, ⊤}
use Rattle.std.proofs.lemmas.List.Edits.{sets}
use Rattle.list.specs.declared.Record.{Record}
use Rattle.table.specs.declared.Function.{Function}
use Rattle.pages.specs.declared.layout.Reached.{Reached}
use Rattle.pages.specs.Rows.{Row, gaps, resource, due, rows_after, rows_of}
use Rattle.pages.specs.Lines.{right, lines_of}

-- both digits of a number below 100
abbrev pub both : ℕ → List ℕ
both r = (48 + r / 10) ∷ (48 + r % 10) ∷ []

-- a text in which the three numbers of a call were written over the line from `at` on
abbrev pub call_over : (text : List ℕ) (at : ℕ) → Record → List ℕ
call_over text at r = sets (sets (sets text at (right r.callee.0)) (at + 8) (right r.caller.0)) (at + 16) (right r.node.0)

-- the resource of a page's last call as a number: 0 where the page has no call yet
abbrev pub number_of : Option Function → ℕ
number_of None = 0
number_of (Some f) = f.0

-- it is a function, whose number is not 0
abbrev pub Named : Option Function → Type 0
Named None = ⊤
Named (Some f) = 1 ≤ f.0

-- the resources of these calls are functions
pub data Called : List Record → Type 0 where
  no_call : Called []
  a_call : {r : Record} {rs : List Record} → 1 ≤ resource r → Called rs → Called (r ∷ rs)

-- there is a row for a call: on the page, or on one page more
pub record Roomy (w : Reached) (r : Record) : Type 0 where
  pub named : Named w.last
  pub within : w.rows ≤ 24 * w.pages
  pub paged : w.pages ≤ 24
  pub more : 24 * w.pages ≤ w.rows + due (number_of w.last) (resource r) → w.pages < 24

-- the sheet of all has been printed over a text so far that the calls `rest` are left: `w.rows` rows stand, and the page is filled up
pub record Stands (all rest : List Record) (text₀ text : List ℕ) (w : Reached) : Type 0 where
  pub named : Named w.last
  pub called : Called rest
  pub done : List Row
  pub count : length done ≡ w.rows
  pub within : w.rows ≤ 24 * w.pages
  pub onward : done ++ rows_after w.pages (24 * w.pages - w.rows) (number_of w.last) rest ≡ rows_of all
  pub written : text ≡ sets text₀ 0 (lines_of (done ++ gaps (24 * w.pages - w.rows)))
