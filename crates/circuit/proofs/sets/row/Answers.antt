-- `sets::row` meets its contract: each of the eight words is a call of the closure
use Rattle.std.proofs.Common.{◌+◌, ◌*◌, sym, get_or, rules}
use Rattle.list.proofs.WordLaws.{packed_row}
use Rattle.circuit.proofs.PackedLaws.{packs_by}
use Rattle.circuit.proofs.sets.row.Goals as goal

pub returns : goal.returns
returns c = packs_by (λ j. get_or c.args.rows.now (8 * c.args.k + j) 0) _ _ c.from_fn.ensures.items.long (search rules)
    (λ m b. sym (packed_row _ c.args.k m b.0))
