-- `records::first` meets its contract.
use Prim.Native.Nat.{◌+◌}
use mathlib.Core.Path.{ap, ◌∙◌}
use Rattle.table.specs.Bytes.{two_at, first}
use Rattle.table.proofs.records.first.Goals as goal

pub returns : goal.returns
unfolding first
returns c = c.two_at.ensures ∙ ap (λ i. two_at c.args.table.now (i + 6)) c.offset-at.ensures.0
