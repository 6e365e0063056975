-- `names::slot` meets its contract, by the test on the number.
use borrow.Author.Tests.{le-leb, lt-leb}
use native.Mathlib.Omega.{arith}
use Rattle.table.proofs.names.slot.Goals as goal

pub returns-then-v-le512 : goal.returns-then-v-le512
returns-then-v-le512 c = (simp (le-leb _ _ c.if-v-le512.true), omega arith)

pub returns-else-v-le512 : goal.returns-else-v-le512
returns-else-v-le512 c = (simp (lt-leb _ _ c.if-v-le512.false), omega arith)
