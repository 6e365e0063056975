-- `lines::pair` meets its contract.
use Rattle.pages.proofs.LineLaws.{pair_laid}
use Rattle.pages.proofs.lines.pair.Goals as goal

pub returns : goal.returns
returns c = pair_laid c.args.text.now c.args.at c.args.r
