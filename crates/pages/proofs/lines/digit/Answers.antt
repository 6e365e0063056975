-- `lines::digit` meets its contract.
use native.Mathlib.Omega.{arith}
use Rattle.pages.proofs.LineLaws.{digit_below, digit_there}
use Rattle.pages.proofs.lines.digit.Goals as goal

pub returns-then-n-weight : goal.returns-then-n-weight
returns-then-n-weight c = digit_below _ _ c.if-n-weight.true

pub returns : goal.returns
returns c = digit_there _ _ (omega (arith, c.if-n-weight.false))
