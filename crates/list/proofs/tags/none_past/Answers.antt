use Rattle.std.proofs.Common.{ℕ, ◌+◌, ◌-◌, not, sym, ap, ◌∙◌, arith}
use Rattle.table.specs.Find.{all}
use Rattle.list.specs.Tags.{tagged}
use Rattle.table.proofs.Loops.{all_more, all_fails}
use Rattle.list.proofs.TagLoops.{all_none, bit_is}
use Rattle.list.proofs.tags.none_past.Goals as goal

pub loop-i-init : goal.loop-i-init
loop-i-init c = (omega arith, ap (all _) (omega arith) ∙ all_none _)

pub returns-then-bit_at : goal.returns-then-bit_at
returns-then-bit_at c = sym (all_fails (λ j. not (tagged _ (c.args.last.0 + j))) _ (c.loop-i.i - c.args.last.0 + 1) (omega arith)
    (omega arith) (ap not (sym (bit_is _ _ _ _ (omega arith) c.bit_at.ensures) ∙ c.if-bit_at.true)))

pub loop-i-preserved : goal.loop-i-preserved
loop-i-preserved c = let p = λ (j : ℕ). not (tagged c.args.tags.now (c.args.last.0 + j)) in (
  omega arith,
  ap (all p) (omega arith) ∙ all_more p (c.loop-i.i - c.args.last.0) c.loop-i.invariant.1
      (ap not (sym (bit_is _ _ _ _ (omega arith) c.bit_at.ensures) ∙ c.if-bit_at.false)),
)

pub returns : goal.returns
returns c = sym (ap (all (λ j. not (tagged c.args.tags.now (c.args.last.0 + j)))) (omega (arith, c.loop-i.invariant.0))
    ∙ c.loop-i.invariant.1)
