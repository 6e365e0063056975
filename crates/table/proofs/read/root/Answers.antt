-- `read::root` meets its contract: bytes 2 and 3 of the function's record.
use mathlib.Core.Path.{ap, ◌∙◌}
use Prim.Native.Nat.{◌+◌}
use Rattle.table.specs.Bytes.{two_at, root}
use Rattle.table.proofs.read.root.Goals as goal

pub returns : goal.returns
unfolding root
returns c = c.two_at.ensures ∙ ap (λ i. two_at c.args.table.now (i + 2)) c.function_at-at.ensures.0
