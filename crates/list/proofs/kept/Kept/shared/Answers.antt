-- `Kept::shared` meets its contract
use Rattle.std.proofs.Common.{◌∙◌}
use Rattle.list.proofs.Meets.{shared_all, shared_some}
use Rattle.list.proofs.kept.Kept.shared.Goals as goal

pub returns-then-once-twice : goal.returns-then-once-twice
returns-then-once-twice c = (c.told-set, λ m b. shared_all _ _ _ _ m c.if-once-twice.true)

pub returns : goal.returns
returns c = (c.union.ensures.0, λ m b. c.union.ensures.1 m b ∙ shared_some _ _ _ _ m c.if-once-twice.false)
