use Rattle.std.proofs.Common.{◌+◌, ◌%◌, ◌^◌, take, sym, ap, ◌∙◌}
use Rattle.list.specs.Tags.{bits_set}
use Rattle.list.proofs.TagLoops.{total_none, total_more, wrap_more}
use Rattle.list.proofs.total.Goals as goal

pub loop-byte-init : goal.loop-byte-init
loop-byte-init c = ap (λ k. k % 2 ^ 64) (sym (total_none c.args.tags.now))

pub loop-byte-preserved : goal.loop-byte-preserved
loop-byte-preserved c = let i = c.loop-byte.byte-index in
    let s = c.args.tags.now in
    let x = c.from-sum.result in
    ap (λ k. (k + x) % 2 ^ 64) c.loop-byte.invariant ∙ wrap_more (bits_set (take i s)) x (2 ^ 64)
    ∙ ap (λ k. k % 2 ^ 64) (ap (λ k. bits_set (take i s) + k) c.from-sum.ensures ∙ sym (total_more s i c.loop-byte-test.true))
