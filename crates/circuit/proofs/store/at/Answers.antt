-- `store::at` meets its contract: entry 0 is none.
use Rattle.std.proofs.Common.{◌-◌, ◌<◌, length, sym, ◌∙◌, arith}
use Rattle.std.proofs.lemmas.List.{get_or_read}
use Rattle.circuit.proofs.StoreLaws.{entry_none}
use Rattle.rules.proofs.StateLaws.{entry_at}
use Rattle.circuit.proofs.store.at.Goals as goal

pub returns-then-k-eq0 : goal.returns-then-k-eq0
returns-then-k-eq0 g c = entry_none _ _ _ c.if-k-eq0.true

pub returns : goal.returns
returns g c = let inside : c.args.k - 1 < length c.args.entries.now = omega arith in
    sym c.index-entries-k.is ∙ get_or_read c.args.entries.now (c.args.k - 1) _ inside c.index-entries-k.is c.args.none
    ∙ sym (entry_at _ _ _ (omega arith))
