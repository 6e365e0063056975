use native.Mathlib.Omega.{arith}
use borrow.Author.Tests.{eqb-true}
use mathlib.Core.Path.{sym, ◌∙◌, subst}
use Rattle.table.specs.Sweep.{Outward}
use Rattle.table.proofs.SiftLaws.{around_lower}
use Rattle.table.proofs.ScopeLaws.{outward}
use Rattle.table.proofs.scope.climbs.Goals as goal

pub loop-a-init : goal.loop-a-init
loop-a-init c = (c.requires.2, λ n e. e)

pub outer-a-requires : goal.outer-a-requires
outer-a-requires c = (c.requires.0, c.requires.1, c.loop-a.invariant.0)

pub loop-a-smaller : goal.loop-a-smaller
loop-a-smaller c = omega (arith, c.outer-a.ensures.0, around_lower c.args.table.now c.loop-a.a.0 (omega (arith, c.loop-a-test.true)))

pub loop-a-preserved : goal.loop-a-preserved
loop-a-preserved c = (c.outer-a.ensures.1, λ n e. outward _ _ _ c.outer-a.ensures.0 n (c.loop-a.invariant.1 n e))

pub returns : goal.returns
returns c e = subst (Outward c.args.table.now c.args.from.0) (eqb-true _ _ (sym c.eq.ensures ∙ e)) c.loop-a.invariant.1
