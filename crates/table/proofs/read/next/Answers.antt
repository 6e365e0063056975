-- `read::next` meets its contract: bytes 8 and 9 of the node's record.
use mathlib.Core.Path.{ap, ◌∙◌}
use Prim.Native.Nat.{◌+◌}
use Rattle.table.specs.Bytes.{two_at, next}
use Rattle.table.proofs.read.next.Goals as goal

pub returns : goal.returns
unfolding next
returns c = c.two_at.ensures ∙ ap (λ i. two_at c.args.table.now (i + 8)) c.node_at-at.ensures.0
