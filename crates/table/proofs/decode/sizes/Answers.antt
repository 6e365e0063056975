-- `decode::sizes` meets its contract: both numbers are put into the last slot.
use Rattle.table.specs.Bytes.{functions, nodes}
use Rattle.table.proofs.DecodeLaws.{sizes_put}
use Rattle.table.proofs.decode.sizes.Goals as goal

pub returns : goal.returns
unfolding functions nodes
returns c = sizes_put c.args.table.now _ _ _ _ _ c.put.ensures c.two_at.ensures c.put-2.ensures c.two_at-2.ensures
