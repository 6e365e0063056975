-- `records::extra` meets its contract.
use Prim.Native.Nat.{◌+◌}
use mathlib.Core.Path.{ap}
use Rattle.table.specs.Bytes.{byte_at, extra}
use Rattle.table.proofs.records.extra.Goals as goal

pub returns : goal.returns
unfolding extra
returns c = ap (λ i. byte_at c.args.table.now (i + 1)) c.offset-at.ensures.0
