-- `store::status_of` meets its contract.
use Rattle.std.proofs.Common.{sym, arith}
use Rattle.rules.proofs.StateLaws.{entry_at}
use Rattle.circuit.proofs.store.status_of.Goals as goal

pub returns : goal.returns
returns c = sym (entry_at _ _ _ (omega (arith, c.requires.0)))
