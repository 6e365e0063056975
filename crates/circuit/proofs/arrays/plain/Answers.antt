-- `arrays::plain` meets its contract: each node becomes its number.
use Rattle.std.proofs.Common.{rules}
use Rattle.circuit.proofs.MappedLaws.{mapped}
use Rattle.circuit.proofs.arrays.plain.Goals as goal

pub returns : goal.returns
returns c = mapped _ (λ n. n.0) _ _ _ _ (record { 0 = 0 }) (λ p q x y k. search rules) (search rules) c.map.ensures.items
