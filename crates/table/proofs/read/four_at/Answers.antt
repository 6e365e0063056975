-- `read::four_at` meets its contract, by the promises for its two halves.
use native.Mathlib.Omega.{arith}
use Rattle.table.specs.Bytes.{four_at}
use Rattle.table.proofs.read.four_at.Goals as goal

pub returns : goal.returns
unfolding four_at
returns c = omega arith
