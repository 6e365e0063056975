-- `read::word` meets its contract: bytes 2 to 5 of the node's record.
use mathlib.Core.Path.{ap, ◌∙◌}
use Prim.Native.Nat.{◌+◌}
use Rattle.table.specs.Bytes.{four_at, word}
use Rattle.table.proofs.read.word.Goals as goal

pub returns : goal.returns
unfolding word
returns c = c.four_at.ensures ∙ ap (λ i. four_at c.args.table.now (i + 2)) c.node_at-at.ensures.0
