-- `scope::one_of_four` meets its contract.
use Rattle.table.proofs.ScopeLaws.{four_hits}
use Rattle.table.proofs.scope.one_of_four.Goals as goal

pub returns : goal.returns
returns c e = four_hits _ _ _ _ _ _ _ _ _ c.same.ensures.0 c.same-2.ensures.0 c.same-3.ensures.0 c.same-4.ensures.0 e
