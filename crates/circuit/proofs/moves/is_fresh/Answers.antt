-- `moves::is_fresh` meets its contract
use Rattle.std.proofs.Common.{◌≡◌, sym, refl, ◌∙◌, arith}
use Rattle.table.specs.Bytes.{first}
use Rattle.table.proofs.Reading.{told}
use Rattle.circuit.proofs.ChainLaws.{ok}
use Rattle.circuit.proofs.moves.is_fresh.Goals as goal

pub second_at-requires : goal.second_at-requires
second_at-requires c = omega (arith, c.requires.1, (ok _ c.args.design.now.read.taken).n_high)

pub returns-then-second_at : goal.returns-then-second_at
returns-then-second_at c = sym (rw (sym c.second_at.ensures ∙ c.if-second_at.true) refl)

pub returns : goal.returns
returns c = let read : c.first.result.0 ≡ first c.args.design.now.table.now c.args.n.0 =
    told _ _ c.args.design.now.read _ c.requires 4 _ (omega arith) c.first.ensures in
    sym (rw (sym c.second_at.ensures ∙ c.if-second_at.false, sym read) refl)
