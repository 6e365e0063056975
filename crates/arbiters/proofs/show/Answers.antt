-- An accepted table has no more records than their array holds, and no more nodes.
use Rattle.list.proofs.RecordVerdicts.{few_arranged}
use Rattle.arbiters.proofs.show.Goals as goal

pub arbiters-requires : goal.arbiters-requires
arbiters-requires g c = (few_arranged _ _ c.in-Ok.ensures).0

pub total-requires : goal.total-requires
total-requires g c = (few_arranged _ _ c.in-Ok.ensures).1
