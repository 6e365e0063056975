-- `kinds::rules` meets its contract. The invariant: the rules of the kinds below `kind` are in their places.
use mathlib.Core.Path.{◌≡◌}
use lib.ListN.{length}
use Rattle.table.specs.Sweep.{RulesOf}
use Rattle.table.proofs.kinds.rules.Given as goal

abbrev pub invariant-loop-kind : goal.invariant-loop-kind
invariant-loop-kind l = (length l.rules ≡ 8) × RulesOf l.kind l.rules
