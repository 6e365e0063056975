-- `lines::blank` meets its contract: 32 spaces and a line feed.
use mathlib.Core.Path.{ap, ◌∙◌}
use lib.Seq.{sets}
use Rattle.pages.proofs.LineLaws.{blank_line}
use Rattle.pages.proofs.lines.blank.Goals as goal

pub returns : goal.returns
returns c = c.lay.ensures ∙ ap (sets _ _) blank_line
