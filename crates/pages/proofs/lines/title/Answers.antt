-- `lines::title` meets its contract: the title's words, and the number over their line.
use Rattle.pages.proofs.LineLaws.{title_laid}
use Rattle.pages.proofs.lines.title.Goals as goal

pub returns : goal.returns
returns c = title_laid _ _ _ _ _ c.lay.ensures c.number.ensures
