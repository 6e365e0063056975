-- `records::offset` meets its contract.
use native.Mathlib.Omega.{arith}
use Rattle.table.specs.Bytes.{node_at}
use Rattle.table.proofs.records.offset.Goals as goal

pub returns : goal.returns
unfolding node_at
returns c = let p = c.requires in
    (omega (arith, p.start, p.low), omega (arith, p.start, p.low, p.high, p.framed.size))
