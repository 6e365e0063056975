-- `decode::whole` meets its contract: the record, then what the kin tells: its lower half is function and parent.
use native.Mathlib.Omega.{arith}
use Rattle.table.proofs.DecodeLaws.{whole_put}
use Rattle.table.proofs.decode.whole.Goals as goal

pub returns : goal.returns
returns c = whole_put _ _ _ _ _ _ _ c.node_slot.ensures.0 c.node.ensures c.put.ensures (omega (arith, c.requires.1, c.requires.2))
