-- `tags::lowest_unfit` meets its contract. The invariants: the tags of the bytes up to i fit, up to the last node; those below n do.
use Rattle.std.proofs.Common.{◌≡◌, ◌+◌, ◌-◌, ◌*◌, ◌≤◌, min}
use Rattle.table.specs.Find.{lowest}
use Rattle.list.specs.Tags.{cell_fits}
use Rattle.list.proofs.tags.lowest_unfit.Given as goal

abbrev pub invariant-loop-i : goal.invariant-loop-i
invariant-loop-i l = lowest (cell_fits l.cells l.tags) (min (8 * l.i) l.last) ≡ 0

abbrev pub invariant-loop-n : goal.invariant-loop-n
invariant-loop-n l = (min (l.n - 1) l.last ≤ 8 * l.i + 8) × (lowest (cell_fits l.cells l.tags) (min (l.n - 1) l.last) ≡ 0)
