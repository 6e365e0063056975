-- `layout::print` meets its contract. The invariant: the sheet stands, but for the calls that are left.
use Prim.Native.Nat.{ℕ, ◌+◌, ◌*◌}
use mathlib.Core.Path.{◌≡◌}
use mathlib.Core.List.{List, ◌∷◌}
use lib.ListN.{drop}
use lib.Seq.{sets}
use Rattle.pages.specs.Rows.{title, gaps}
use Rattle.pages.specs.Lines.{lines_of}
use Rattle.pages.specs.Working.{Stands}
use Rattle.pages.proofs.layout.print.Given as goal

abbrev pub invariant-loop-r : goal.invariant-loop-r
invariant-loop-r l = (before : List ℕ) → l.initial.text ≡ sets before (792 * 0) (lines_of (title (0 + 1) ∷ gaps 23))
    → Stands l.records (drop l.r-index l.records) before l.text l.w
