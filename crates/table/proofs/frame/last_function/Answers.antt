-- `frame::last_function` meets its contract: F is the table's first two bytes.
use Rattle.table.specs.Bytes.{functions}
use Rattle.table.proofs.frame.last_function.Goals as goal

pub returns : goal.returns
unfolding functions
returns c = c.two_at.ensures
