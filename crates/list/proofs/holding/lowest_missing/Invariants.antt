-- `holding::lowest_missing` meets its contract. The invariant: of the set, what is below n has its tag.
use Rattle.std.proofs.Common.{◌≡◌, ◌-◌}
use Rattle.table.specs.Find.{lowest}
use Rattle.list.specs.Tags.{tagged, holds_at}
use Rattle.list.proofs.holding.lowest_missing.Given as goal

abbrev pub invariant-loop-n : goal.invariant-loop-n
invariant-loop-n l = lowest (holds_at (tagged l.set) l.tags) (l.n - 1) ≡ 0
