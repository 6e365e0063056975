use native.Mathlib.Omega.{arith}
use native.Mathlib.Decide.{ℕ_discrete}
use borrow.Author.Tests.{eqb-true}
use Prim.Native.Nat.{ℕ, ◌+◌, ◌≤◌}
use mathlib.Core.Path.{◌≡◌, sym, ◌∙◌}
use lib.Dec.{T}
use Rattle.table.specs.Check.{counted}
use Rattle.table.proofs.SiftLaws.{counted_by}
use Rattle.table.proofs.sweep.all_counted.Goals as goal
use Rattle.table.proofs.sweep.all_counted.Goals.{else-loop-n-test, then-loop-n-test+else-n-end}
use Rattle.table.proofs.sweep.all_counted.Lts as lts
use Rattle.table.proofs.sweep.all_counted.Reads as reads
use Rattle.table.proofs.sweep.all_counted.Tie as tie

abbrev Turned : Type 0
Turned = lts.After-outside tie.the-claims reads.Pre reads.Post goal.the-invariant-loop-n goal.the-decreases-loop-n

-- node n has as many children as it may, and so have those below it
turned : (c : Turned) → c.loop-n.wrong + c.outside-wrong.result ≡ 0 → (m : ℕ) → 1 ≤ m → m ≤ c.loop-n.n → T (counted c.args.table.now m)
turned c z m a b = go (ℕ_discrete m c.loop-n.n)
  where
    go : Dec (m ≡ c.loop-n.n) → T (counted c.args.table.now m)
    go (yes q) =
        let here = c.outside-wrong.ensures.1 (omega arith) in
        rw q (counted_by c.args.table.now c.loop-n.n _ _ (c.requires.2.each c.loop-n.n (omega arith) (omega arith))
        (c.requires.1.each c.loop-n.n (omega arith, omega arith)) here.0 here.1)
    go (no q) = c.loop-n.invariant.1 (omega arith) m a (omega arith)

pub loop-n-init : goal.loop-n-init
loop-n-init c = (omega arith, λ z m a b. absurd (omega arith))

pub loop-n-preserved : goal.loop-n-preserved
loop-n-preserved c = (omega (arith, c.outside-wrong.ensures.0), λ z m a b. turned (search) z m a (omega arith))

pub returns : goal.returns
returns c e m i = elim c.loop-n-test.branch [
  | else-loop-n-test w ↦ absurd (omega arith)
  | then-loop-n-test+else-n-end w ↦ turned (search) (sym w.wrong-is ∙ eqb-true _ _ e) m i.0 (omega arith)
]
