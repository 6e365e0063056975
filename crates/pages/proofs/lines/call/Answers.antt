-- `lines::call` meets its contract: three numbers.
use Rattle.pages.proofs.LineLaws.{call_laid}
use Rattle.pages.proofs.lines.call.Goals as goal

pub returns : goal.returns
returns c = call_laid _ _ _ _ _ _ c.number.ensures c.number-2.ensures c.number-3.ensures
