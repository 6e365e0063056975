-- `read::extra` meets its contract: byte 1 of the node's record.
use mathlib.Core.Path.{ap, ◌∙◌}
use Prim.Native.Nat.{◌+◌}
use Rattle.table.specs.Bytes.{byte_at, extra}
use Rattle.table.proofs.read.extra.Goals as goal

pub returns : goal.returns
unfolding extra
returns c = c.byte_at.ensures ∙ ap (λ i. byte_at c.args.table.now (i + 1)) c.node_at-at.ensures.0
