-- `scope::reaches` meets its contract: the let is among the four innermost, or further out.
use Rattle.table.proofs.ScopeLaws.{one_of, one_further}
use Rattle.table.proofs.scope.reaches.Goals as goal

pub returns-then-one_of_four : goal.returns-then-one_of_four
returns-then-one_of_four c e = one_of _ _ _ _ _ _ _ c.outer-a.ensures.0 c.outer-b.ensures.0 c.outer-c.ensures.0 c.outer-d.ensures.0
    (c.one_of_four.ensures c.if-one_of_four.true)

pub returns : goal.returns
returns c e = one_further _ _ _ _ _ _ _ c.outer-a.ensures.0 c.outer-b.ensures.0 c.outer-c.ensures.0
    c.outer-d.ensures.0 (c.climbs.ensures e)
