-- `decode::node` meets its contract: the record's bytes are read two by two and put into the node's slot.
use mathlib.Core.Path.{refl}
use Rattle.table.proofs.DecodeLaws.{node_put}
use Rattle.table.proofs.decode.node.Goals as goal

pub returns : goal.returns
returns c = node_put c.args.table.now _ _ _ c.requires refl _ _ _ _ _ _ _ _ _ _ _ _ c.node_slot-slot.ensures.0 c.two_at-kind.ensures
    c.two_at-low.ensures c.two_at-high.ensures c.two_at-first.ensures c.two_at-next.ensures c.put.ensures c.put-2.ensures
    c.put-3.ensures c.put-4.ensures c.put-5.ensures
