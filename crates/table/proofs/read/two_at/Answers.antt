-- `read::two_at` meets its contract, by the promises for its two bytes.
use native.Mathlib.Omega.{arith}
use Rattle.table.specs.Bytes.{two_at}
use Rattle.table.proofs.read.two_at.Goals as goal

pub returns : goal.returns
unfolding two_at
returns c = omega arith
