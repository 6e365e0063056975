-- `layout::due` meets its contract.
use Rattle.std.proofs.Common.{ap, ◌∙◌, subst}
use mir.Val.{bool_byte}
use Rattle.pages.specs.Working.{Named}
use Rattle.pages.proofs.RowLaws.{due_first, due_next}
use Rattle.pages.proofs.layout.due.Goals as goal

pub returns-in-None : goal.returns-in-None
returns-in-None c = rw c.in-None.is (due_first _)

pub returns-in-Some : goal.returns-in-Some
returns-in-Some c = rw c.in-Some.is
    (c.from.ensures ∙ ap bool_byte c.ne.ensures ∙ due_next _ _ (subst Named c.in-Some.is c.requires))
