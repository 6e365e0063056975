-- `Sets::place` meets its contract: a mark in each of the three sets.
use Rattle.std.proofs.Common.{refl}
use Rattle.circuit.proofs.TrackLaws.{places_by}
use Rattle.circuit.proofs.sets.Sets.place.Goals as goal

pub returns : goal.returns
returns c = (places_by _ c.requires _ _ _ _ _ _ _ _ _ c.mark.ensures c.mark-2.ensures c.mark-3.ensures _, refl)
