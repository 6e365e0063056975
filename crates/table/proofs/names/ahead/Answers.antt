-- `names::ahead` meets its contract, by the test on the numbers and the promise of `slot`.
use borrow.Author.Tests.{lt-ltb, le-ltb}
use native.Mathlib.Omega.{arith}
use Rattle.table.proofs.names.ahead.Goals as goal

pub returns-then-n-v : goal.returns-then-n-v
returns-then-n-v c = (simp (lt-ltb _ _ c.if-n-v.true) c.slot.ensures.0, omega arith)

pub returns-else-n-v : goal.returns-else-n-v
returns-else-n-v c = (simp (le-ltb _ _ c.if-n-v.false), omega arith)
