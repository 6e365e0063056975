-- `read::function_at` meets its contract: `function_at`, 0 read as 1, and a bound for the sums of its callers.
use native.Mathlib.Omega.{arith}
use Rattle.table.specs.Bytes.{function_at}
use Rattle.table.proofs.read.function_at.Goals as goal

pub returns-then-k-eq0 : goal.returns-then-k-eq0
unfolding function_at
returns-then-k-eq0 c = (omega arith, omega arith)

pub returns-else-k-eq0 : goal.returns-else-k-eq0
unfolding function_at
returns-else-k-eq0 c = (omega arith, omega arith)
