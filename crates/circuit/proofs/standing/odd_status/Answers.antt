use Rattle.std.proofs.Common.{max, ap, refl, ◌∙◌, arith, get_or-take, length-take}
use Rattle.table.proofs.Reading.{told_last}
use Rattle.circuit.proofs.ChainLaws.{ok}
use Rattle.circuit.proofs.StandsLaws.{over_end, over_highest}
use Rattle.circuit.proofs.standing.odd_status.Goals as goal

pub shared_ref_as_front-s-items : goal.shared_ref_as_front-s-items
shared_ref_as_front-s-items c = omega (
  arith,
  told_last _ _ c.args.design.now.read _ c.last-last.ensures,
  (ok _ c.args.design.now.read.taken).n_high,
)

pub loop-s-init : goal.loop-s-init
loop-s-init c = over_end 3 _ 0 refl

pub loop-s-preserved : goal.loop-s-preserved
loop-s-preserved c = over_highest 3 _ _ _ _ c.loop-s.invariant (c.max-highest.ensures ∙ ap (max c.loop-s.highest)
    (get_or-take c.last-last.result.0 c.args.status.now c.loop-s.s-index 0
    (omega (arith, length-take c.last-last.result.0 c.args.status.now))))
