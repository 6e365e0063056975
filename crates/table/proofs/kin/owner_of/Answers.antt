-- `kin::owner_of` meets its contract, by whether a node names the node.
use borrow.Author.Tests.{eq-eqb, ne_eqb}
use Rattle.table.proofs.kin.owner_of.Goals as goal

pub returns-then-namer-eq0 : goal.returns-then-namer-eq0
returns-then-namer-eq0 c = simp (eq-eqb _ _ c.if-namer-eq0.true)

pub returns-else-namer-eq0 : goal.returns-else-namer-eq0
returns-else-namer-eq0 c = simp (ne_eqb _ _ c.if-namer-eq0.false)
