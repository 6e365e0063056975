-- `decode::two_at` meets its contract.
use native.Mathlib.Omega.{arith}
use Rattle.table.specs.Bytes.{two_at}
use Rattle.table.proofs.decode.two_at.Goals as goal

pub returns : goal.returns
unfolding two_at
returns c = omega arith
