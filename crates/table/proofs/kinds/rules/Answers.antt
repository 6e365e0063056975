use native.Mathlib.Omega.{arith}
use mathlib.Core.Path.{◌∙◌}
use lib.ListN.{length-set}
use Rattle.table.proofs.RuleLaws.{rules_more}
use Rattle.table.proofs.kinds.rules.Goals as goal

pub loop-kind-preserved : goal.loop-kind-preserved
loop-kind-preserved c = let inv = c.loop-kind.invariant in
    (length-set _ _ _ ∙ inv.0, rules_more _ _ _ (omega (arith, inv.0)) c.rule_of.ensures inv.1)
