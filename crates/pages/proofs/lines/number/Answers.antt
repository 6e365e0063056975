-- `lines::number` meets its contract, by how many digits n has.
use mathlib.Core.Path.{◌∙◌}
use native.Mathlib.Omega.{arith}
use Rattle.pages.proofs.LineLaws.{one_laid, two_laid, more_laid}
use Rattle.pages.proofs.lines.number.Goals as goal

pub returns-then-n-lt10 : goal.returns-then-n-lt10
returns-then-n-lt10 c = one_laid c.args.text.now c.args.at c.args.n c.if-n-lt10.true

pub returns-then-n-lt100 : goal.returns-then-n-lt100
returns-then-n-lt100 c = c.pair.ensures ∙ two_laid c.args.text.now c.args.at c.args.n (omega (arith, c.if-n-lt10.false)) c.if-n-lt100.true

pub returns : goal.returns
returns c = c.pair-2.ensures
    ∙ more_laid c.args.text.now c.args.at c.args.n _ _ c.digit.ensures c.digit-2.ensures
    (omega (arith, c.if-n-lt100.false))
