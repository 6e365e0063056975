-- `names::lowest_unlinked` meets its contract. The invariant: none of the nodes below n meets refusal 4.
use mathlib.Core.Path.{◌≡◌}
use Prim.Native.Nat.{◌-◌}
use Rattle.table.specs.Find.{lowest}
use Rattle.table.specs.Check.{linked}
use Rattle.table.proofs.names.lowest_unlinked.Given as goal

abbrev pub invariant-loop-n : goal.invariant-loop-n
invariant-loop-n l = lowest (linked l.table) (l.n - 1) ≡ 0
