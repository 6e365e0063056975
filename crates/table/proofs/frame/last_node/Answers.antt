-- `frame::last_node` meets its contract: N is the two bytes after F.
use Rattle.table.specs.Bytes.{nodes}
use Rattle.table.proofs.frame.last_node.Goals as goal

pub returns : goal.returns
unfolding nodes
returns c = c.two_at.ensures
