-- `read::params` meets its contract: byte 0 of the function's record.
use mathlib.Core.Path.{ap, ◌∙◌}
use Rattle.table.specs.Bytes.{byte_at, params}
use Rattle.table.proofs.read.params.Goals as goal

pub returns : goal.returns
unfolding params
returns c = c.byte_at.ensures ∙ ap (λ i. byte_at c.args.table.now (i)) c.function_at-at.ensures.0
