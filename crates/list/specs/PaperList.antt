-- what is claimed of the list: section 4.2 of the paper decides it
use Rattle.std.specs.Prelude.{◌≡◌, ℕ, Bool, true, List}
use Rattle.table.specs.Pick.{Range}
use Rattle.table.specs.Bytes.{functions}
use Rattle.table.specs.Expressions.{expr_at, body_of}
use Rattle.list.specs.Sets.{Calls}
use Rattle.list.specs.Paper.{◌≐◌, PaperC, body_sets, PaperListed}
use Rattle.list.specs.Tags.{listed}

-- a test that passes exactly if P holds
abbrev pub Decides : Bool → Type 0 → Type 0
Decides b P = (b ≡ true → P) × (P → b ≡ true)

-- the list of an accepted table is the paper's, of the functions that main reaches: shown by `paper_list` (proofs/Theorems)
pub record PaperList (t : List ℕ) : Type 1 where
  -- a node is listed exactly if it is in A⟦p⟧, p being the table's functions that main reaches
  pub exactly : (n : ℕ) → Decides (listed t n) (PaperListed t n)
  -- the sets that A⟦p⟧ is made of are the paper's C of the bodies: they obey its equations
  pub bodies : PaperC (body_of t) (expr_at t) (functions t) (body_sets t)
  -- and no others do
  pub unique : (B : ℕ → Calls) → PaperC (body_of t) (expr_at t) (functions t) B → (f : ℕ) → Range (functions t) f → B f ≐ body_sets t f
