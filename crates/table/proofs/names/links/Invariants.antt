-- `names::links` meets its contract: a turn decodes a node's record and counts what its first and next name.
-- The invariant: slots, mentions and namers are right below n.
use Prim.Native.Nat.{◌-◌}
use Rattle.table.specs.Bytes.{functions}
use Rattle.table.specs.Working.{Filled}
use Rattle.table.proofs.NameLoops.{LinksTo}
use Rattle.table.proofs.names.links.Given as goal

abbrev pub invariant-loop-n : goal.invariant-loop-n
invariant-loop-n l = LinksTo l.table l.initial.mentions l.mentions l.namers (l.n - 1)
    × Filled l.table (functions l.table) (l.n - 1) 0 l.cells
