use native.Mathlib.Omega.{arith}
use Rattle.pages.proofs.PageLaws.{page_none, page_more, page_whole}
use Rattle.pages.proofs.layout.begin.Goals as goal

pub loop-i-init : goal.loop-i-init
loop-i-init c = page_none _ _

pub loop-i-preserved : goal.loop-i-preserved
loop-i-preserved c = page_more _ _ _ _ c.loop-i.i c.loop-i.invariant c.blank.ensures

pub returns : goal.returns
returns c = page_whole _ _ _ _ c.loop-i.i c.title.ensures (omega arith) c.loop-i.invariant
