-- `read::node_at` meets its contract: `node_at`, 0 read as 1, and a bound for the sums of its callers.
use native.Mathlib.Omega.{arith}
use Rattle.table.specs.Bytes.{node_at, functions}
use Rattle.table.proofs.read.node_at.Goals as goal

pub returns-then-k-eq0 : goal.returns-then-k-eq0
unfolding node_at functions
returns-then-k-eq0 c = (omega arith, omega arith)

pub returns-else-k-eq0 : goal.returns-else-k-eq0
unfolding node_at functions
returns-else-k-eq0 c = (omega arith, omega arith)
