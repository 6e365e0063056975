-- `widths::keep` meets its contract: by the width that is read of the function's cells.
use Rattle.std.proofs.Common.{ap, ◌∙◌}
use Rattle.rules.specs.Arithmetic.{narrow}
use Rattle.circuit.proofs.WidthLaws.{is_width, few}
use Rattle.circuit.proofs.widths.keep.Goals as goal

pub cut-requires : goal.cut-requires
cut-requires c = few _ _ c.args.design.now.read _ c.requires _ c.width.ensures

pub returns : goal.returns
returns c = c.cut.ensures ∙ ap (λ k. narrow k c.args.v) (is_width _ _ c.args.design.now.read _ c.requires _ c.width.ensures)
