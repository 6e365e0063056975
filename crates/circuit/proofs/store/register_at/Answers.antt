-- `store::register_at` meets its contract: the register lies in its function's eight.
use Rattle.std.proofs.Common.{sym, arith}
use Rattle.circuit.proofs.StoreLaws.{register_none, register_high}
use Rattle.rules.proofs.StateLaws.{register_at}
use Rattle.circuit.proofs.store.register_at.Goals as goal

pub returns-then-k-eq0 : goal.returns-then-k-eq0
returns-then-k-eq0 c = register_none _ _ _ c.if-k-eq0.true

pub returns-then-j-gt7 : goal.returns-then-j-gt7
returns-then-j-gt7 c = register_high _ _ _ c.if-j-gt7.true

pub returns : goal.returns
returns c = sym (register_at _ _ _ (omega arith) (omega arith))
