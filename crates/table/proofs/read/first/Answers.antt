-- `read::first` meets its contract: bytes 6 and 7 of the node's record.
use mathlib.Core.Path.{ap, ◌∙◌}
use Prim.Native.Nat.{◌+◌}
use Rattle.table.specs.Bytes.{two_at, first}
use Rattle.table.proofs.read.first.Goals as goal

pub returns : goal.returns
unfolding first
returns c = c.two_at.ensures ∙ ap (λ i. two_at c.args.table.now (i + 6)) c.node_at-at.ensures.0
