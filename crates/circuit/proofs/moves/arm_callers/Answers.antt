-- `moves::arm_callers` meets its contract
use Rattle.std.proofs.Common.{◌&&◌, ◌||◌, refl, ap, ◌∙◌}
use Rattle.list.specs.Working.{packed}
use Rattle.circuit.proofs.moves.arm_callers.Goals as goal

pub returns : goal.returns
returns c = let x = c.args.sets.now in (
  record {
    size = c.gain.ensures.size;
    bits = λ m b. c.gain.ensures.bits m b ∙ ap (λ v. packed x.armed m || v)
        (c.common-callers.ensures.bits m b ∙ ap (λ v. packed x.inside m && v) (c.row-sites.ensures.bits m b));
  },
  refl,
  refl,
  refl,
)
