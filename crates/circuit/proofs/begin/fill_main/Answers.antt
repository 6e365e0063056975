use Rattle.std.proofs.Common.{sym, refl, ◌∙◌, ap₂, arith}
use Rattle.table.proofs.Widths.{width_range}
use Rattle.rules.specs.Arithmetic.{narrow}
use Rattle.circuit.proofs.ChainLaws.{ok}
use Rattle.circuit.proofs.BeginLaws.{kept_at}
use Rattle.circuit.proofs.GiveLaws.{filled_next, filled_end}
use Rattle.circuit.proofs.begin.fill_main.Goals as goal

pub cut-requires : goal.cut-requires
cut-requires c = omega (arith, (width_range _ c.requires.0 _ c.requires.1).1)

pub bounds-registers-base : goal.bounds-registers-base
bounds-registers-base c = omega (arith, c.requires.1.1, (ok _ c.requires.0).f_high)

pub loop-i-preserved : goal.loop-i-preserved
loop-i-preserved c = (
  c.loop-i.invariant.0,
  filled_next _ _ _ _ _ c.loop-i.invariant.1 c.loop-i-test.true c.requires.1.0 _ _ refl
      (c.cut.ensures ∙ ap₂ narrow c.loop-i.invariant.0 c.argument.ensures
      ∙ sym (kept_at c.args.table.now c.args.main.0 c.args.args.now c.loop-i.i)),
)

pub returns : goal.returns
returns c = filled_end _ _ _ _ _ c.loop-i.invariant.1 (omega arith)
