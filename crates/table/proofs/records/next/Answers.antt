-- `records::next` meets its contract.
use Prim.Native.Nat.{◌+◌}
use mathlib.Core.Path.{ap, ◌∙◌}
use Rattle.table.specs.Bytes.{two_at, next}
use Rattle.table.proofs.records.next.Goals as goal

pub returns : goal.returns
unfolding next
returns c = c.two_at.ensures ∙ ap (λ i. two_at c.args.table.now (i + 8)) c.offset-at.ensures.0
