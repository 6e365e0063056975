-- the arbiter sheet of a table (document 02, Q-1), and what is left in a text that is lent for it
use Rattle.std.specs.Prelude.{ℕ, ◌-◌, ◌≡◌, List, [], ◌++◌, length, replicate, Result, IfOk}
use Rattle.std.proofs.lemmas.List.Edits.{sets}
use Rattle.table.specs.declared.refusals.Refusal.{Refusal}
use Rattle.table.specs.Check.{if_accepted, check_of}
use Rattle.list.specs.Tags.{verdict_by}
use Rattle.list.specs.Records.{records_of}
use Rattle.pages.specs.declared.Sheet.{Sheet}
use Rattle.pages.specs.declared.Filled.{Filled}
use Rattle.pages.specs.Rows.{rows_of}
use Rattle.pages.specs.Lines.{lines_of}

-- of an accepted table: the lines of the rows of its arbiter list
unfoldable pub sheet_of : List ℕ → List ℕ
sheet_of t = lines_of (rows_of (records_of t))

-- what a text gets of any table: no bytes where it is refused, and the program prints the refusal then
unfoldable pub sheet_bytes : List ℕ → List ℕ
sheet_bytes t = if_accepted (check_of t) (sheet_of t) []

-- 24 pages of 24 lines of 33 bytes: no sheet has more (`few`, specs/Layout)
abbrev pub room : ℕ
room = 19008

-- a sheet by value: its bytes, and zeros after them
pub record Printed (t : List ℕ) (r : Result Sheet Refusal) : Type 0 where
  pub told : verdict_by (λ s. s.design) r ≡ check_of t
  pub counted : IfOk r (λ s. s.length ≡ length (sheet_bytes t))
  pub text : IfOk r (λ s. s.text ≡ sheet_bytes t ++ replicate (room - length (sheet_bytes t)) 0)

-- a lent text with the sheet written over it from the front; the bytes past the sheet keep their content, and all on a refusal: of a text
-- that has the room it is the sheet and then the text's own rest (`over`, specs/Layout)
unfoldable pub sheet_over : (t text : List ℕ) → List ℕ
sheet_over t text = sets text 0 (sheet_bytes t)

pub record FilledWith (t before after : List ℕ) (r : Result Filled Refusal) : Type 0 where
  pub told : verdict_by (λ f. f.design) r ≡ check_of t
  pub counted : IfOk r (λ f. f.length ≡ length (sheet_bytes t))
  pub text : after ≡ sheet_over t before
