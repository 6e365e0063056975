-- `list_missing` meets its contract: by what the check of table and tags says, then by the node that the tags lack.
use Rattle.std.proofs.Common.{rules}
use Rattle.exports.proofs.Told.{missing_numbered, numbered}
use Rattle.exports.proofs.list_missing.Goals as goal

pub returns : goal.returns
returns c = missing_numbered _ _ c.check_coverage.result _ c.check_coverage.ensures
    (numbered _ _ _ _ _ c.map_or_else.ensures (λ x k. search rules) (λ e k. search rules))
