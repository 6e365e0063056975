-- `tags::none_past` meets its contract. The invariant: none of the bits up to i is set.
use Rattle.std.proofs.Common.{◌≡◌, ◌+◌, ◌-◌, ◌*◌, ◌≤◌, true, not, length}
use Rattle.table.specs.Find.{all}
use Rattle.list.specs.Tags.{tagged}
use Rattle.list.proofs.tags.none_past.Given as goal

abbrev pub invariant-loop-i : goal.invariant-loop-i
invariant-loop-i l = (l.i - l.fn.last.0 ≤ 8 * length l.tags - l.fn.last.0)
    × (all (λ j. not (tagged l.tags (l.fn.last.0 + j))) (l.i - l.fn.last.0) ≡ true)
