-- `moves::follow` meets its contract: the node is known, or looked up.
use Rattle.circuit.proofs.moves.follow.Goals as goal

pub update-requires : goal.update-requires
update-requires c = c.requires

pub returns-in-Some : goal.returns-in-Some
returns-in-Some c = λ d e s₀ sized q eq tr. c.in-Some.ensures d e s₀ sized q eq tr

pub returns-in-None : goal.returns-in-None
returns-in-None c = λ d e s₀ sized q eq tr. ((c.in-None.ensures d e s₀ sized q eq tr).0, c.first.ensures)
