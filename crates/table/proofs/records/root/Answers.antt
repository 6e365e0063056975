-- `records::root` meets its contract.
use mathlib.Core.Path.{refl, ◌∙◌}
use Rattle.table.proofs.DecodeLaws.{root_bytes}
use Rattle.table.proofs.records.root.Goals as goal

pub returns : goal.returns
returns c = c.two_at.ensures ∙ root_bytes _ _ _ c.requires.1 refl
