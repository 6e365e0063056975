-- `read::nodes` meets its contract: N is the two bytes after F.
use Rattle.table.specs.Bytes.{nodes}
use Rattle.table.proofs.read.nodes.Goals as goal

pub returns : goal.returns
unfolding nodes
returns c = c.two_at.ensures
