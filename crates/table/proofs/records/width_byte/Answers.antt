-- `records::width_byte` meets its contract.
use mathlib.Core.Path.{refl}
use Rattle.table.proofs.DecodeLaws.{second_byte}
use Rattle.table.proofs.records.width_byte.Goals as goal

pub returns : goal.returns
returns c = second_byte _ _ _ c.requires.1 refl
