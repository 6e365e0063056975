-- `records::params` meets its contract.
use mathlib.Core.Path.{refl}
use Rattle.table.proofs.DecodeLaws.{params_byte}
use Rattle.table.proofs.records.params.Goals as goal

pub returns : goal.returns
returns c = params_byte _ _ _ c.requires.1 refl
