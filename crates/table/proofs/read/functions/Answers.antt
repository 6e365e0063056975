-- `read::functions` meets its contract: F is the table's first two bytes.
use Rattle.table.specs.Bytes.{functions}
use Rattle.table.proofs.read.functions.Goals as goal

pub returns : goal.returns
unfolding functions
returns c = c.two_at.ensures
