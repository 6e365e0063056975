-- `moves::turned` meets its contract: the node is read anew.
use Rattle.std.proofs.Common.{ap}
use Rattle.list.specs.Working.{packed}
use Rattle.circuit.proofs.FollowLaws.{turns_so, follows_anew}
use Rattle.circuit.proofs.UpdateLaws.{node_bit}
use Rattle.circuit.proofs.moves.turned.Goals as goal

pub place-requires : goal.place-requires
place-requires c = node_bit _ c.args.design.now.read.taken _ c.requires.1

pub returns : goal.returns
returns c = let fair = c.args.design.now.read.taken in
    λ d e s₀ sized q eq tr. follows_anew _ fair _ c.requires.0 _ s₀ sized q _ eq _ _ tr _
    (turns_so _ fair _ _ _ c.args.m c.requires.1 c.place.ensures.0 (λ m. ap (λ l. packed l m) c.place.ensures.1))
    c.requires.0 _ (ap packed c.read_anew.ensures.2) (c.read_anew.ensures.1 d e)
