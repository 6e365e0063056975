-- `store::put` meets its contract: a write at 0 writes nothing.
use Rattle.std.proofs.Common.{sym, arith}
use Rattle.circuit.proofs.StoreLaws.{write_none}
use Rattle.rules.proofs.StateLaws.{write_at}
use Rattle.circuit.proofs.store.put.Goals as goal

pub returns-then-k-eq0 : goal.returns-then-k-eq0
returns-then-k-eq0 g c = write_none _ _ _ c.if-k-eq0.true

pub returns : goal.returns
returns g c = sym (write_at _ _ _ (omega arith))
