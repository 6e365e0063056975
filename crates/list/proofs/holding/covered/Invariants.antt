-- `holding::covered` meets its contract. The invariant: the bytes up to i lack nothing.
use Rattle.std.proofs.Common.{◌≡◌, ◌*◌}
use Rattle.table.specs.Find.{lowest}
use Rattle.list.specs.Tags.{tagged, holds_at}
use Rattle.list.proofs.holding.covered.Given as goal

abbrev pub invariant-loop-i : goal.invariant-loop-i
invariant-loop-i l = lowest (holds_at (tagged l.set) l.tags) (8 * l.i) ≡ 0
