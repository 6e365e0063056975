-- `layout::begin` meets its contract. The invariant: after the title i lines of spaces stand.
use Prim.Native.Nat.{◌+◌, ◌*◌}
use mathlib.Core.Path.{◌≡◌}
use lib.Seq.{sets}
use Rattle.pages.specs.Rows.{gaps}
use Rattle.pages.specs.Lines.{lines_of}
use Rattle.pages.proofs.layout.begin.Given as goal

abbrev pub invariant-loop-i : goal.invariant-loop-i
invariant-loop-i l = l.text ≡ sets l.initial.text (792 * l.k + 33) (lines_of (gaps l.i))
