-- `tracking::read_anew` meets its contract: the node is placed by whether it has a step.
use Rattle.std.proofs.Common.{eqb, ap, ◌∙◌, arith}
use Rattle.circuit.proofs.ChainLaws.{ok}
use Rattle.circuit.proofs.SortLaws.{is_yes, is_free}
use Rattle.circuit.proofs.TrackLaws.{placed_as}
use Rattle.circuit.proofs.tracking.read_anew.Goals as goal

pub place-requires : goal.place-requires
place-requires c = (c.requires.0, omega (arith, c.requires.1, (ok _ c.args.design.now.read.taken).n_high))

pub returns : goal.returns
returns c = (
  c.sort_at-k.ensures,
  λ d e. placed_as _ _ _ _ _ _ _ _ _ c.place.ensures.0 (c.eq.ensures ∙ is_yes _ ∙ ap (λ x. eqb x 2) (c.sort_at-k.ensures d e))
      (c.eq-2.ensures ∙ is_free _ ∙ ap (λ x. eqb x 1) (c.sort_at-k.ensures d e)) (c.entered-i.ensures c.args.value.now d e),
  c.place.ensures.1,
)
