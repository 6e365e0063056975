-- `records::word` meets its contract: two halves.
use Prim.Native.Nat.{◌+◌, ◌*◌}
use mathlib.Core.Path.{ap, ap₂, ◌∙◌}
use native.Mathlib.Omega.{arith}
use Rattle.table.specs.Bytes.{two_at, four_at, word}
use Rattle.table.proofs.records.word.Goals as goal

pub returns : goal.returns
unfolding word four_at
returns c = let t = c.args.table.now in
    ap₂ (λ x y. x + 65536 * y) (c.two_at-low.ensures ∙ ap (λ i. two_at t (i + 2)) c.offset-at.ensures.0)
    (c.two_at-high.ensures ∙ ap (two_at t) (omega (arith, c.offset-at.ensures.0)))
