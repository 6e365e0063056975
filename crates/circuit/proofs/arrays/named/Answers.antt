-- `arrays::named` meets its contract: each number becomes the node it names.
use Rattle.std.proofs.Common.{rules, ap, ◌∙◌}
use Rattle.circuit.specs.Meaning.{numbers}
use Rattle.circuit.proofs.EntryLaws.{as_node, numbered}
use Rattle.circuit.proofs.MappedLaws.{mapped}
use Rattle.circuit.proofs.arrays.named.Goals as goal

pub returns : goal.returns
returns c = ap numbers (mapped _ as_node _ _ _ _ 0 (λ p q x y k. search rules) (search rules) c.map.ensures.items) ∙ numbered c.args.raw
