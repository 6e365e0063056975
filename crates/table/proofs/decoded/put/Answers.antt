-- `decoded::put` meets its contract.
use mathlib.Core.Path.{refl}
use Rattle.table.specs.Decoded.{put_number}
use Rattle.table.proofs.decoded.put.Goals as goal

pub returns : goal.returns
unfolding put_number
returns c = refl
