-- `sweep::sift` meets its contract: each turn hands a node's kin on and sifts the node.
-- The invariant: the nodes below n handed on, left their ranks and are sifted.
use Prim.Native.Nat.{◌-◌}
use Rattle.table.proofs.HandEnd.{LinkedTo}
use Rattle.table.proofs.SiftLoop.{SiftedTo}
use Rattle.table.proofs.sweep.sift.Given as goal

abbrev pub invariant-loop-n : goal.invariant-loop-n
invariant-loop-n l = LinkedTo l.table (l.n - 1) l.kin l.kids × SiftedTo l.table (l.n - 1) l.wanted l.offspring l.bounds l.count
