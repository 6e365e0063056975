-- `read::kind` meets its contract: byte 0 of the node's record.
use mathlib.Core.Path.{ap, ◌∙◌}
use Rattle.table.specs.Bytes.{byte_at, kind}
use Rattle.table.proofs.read.kind.Goals as goal

pub returns : goal.returns
unfolding kind
returns c = c.byte_at.ensures ∙ ap (λ i. byte_at c.args.table.now (i)) c.node_at-at.ensures.0
