-- `records::kind` meets its contract.
use mathlib.Core.Path.{ap}
use Rattle.table.specs.Bytes.{byte_at, kind}
use Rattle.table.proofs.records.kind.Goals as goal

pub returns : goal.returns
unfolding kind
returns c = ap (byte_at c.args.table.now) c.offset-at.ensures.0
