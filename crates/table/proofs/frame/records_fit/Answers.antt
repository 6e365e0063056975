use native.Mathlib.Omega.{arith}
use mathlib.Core.Path.{◌≡◌, refl, sym, ap, ap₂, ◌∙◌}
use Rattle.table.specs.Find.{all}
use Rattle.table.specs.Check.{record_fits}
use Rattle.table.specs.Working.{IsFunction}
use Rattle.table.proofs.Loops.{all_fails}
use Rattle.table.proofs.Turns.{all_turn}
use Rattle.table.proofs.WidthLaws.{bits_few}
use mathlib.Core.Bool.{◌&&◌}
use lib.Dec.{leb}
use Rattle.table.proofs.frame.records_fit.Goals as goal
use Rattle.table.proofs.frame.records_fit.Lts as lts
use Rattle.table.proofs.frame.records_fit.Reads as reads
use Rattle.table.proofs.frame.records_fit.Tie as tie

abbrev Turn : Type 0
Turn = lts.In-loop tie.the-claims reads.Pre reads.Post goal.the-invariant-loop-f goal.the-decreases-loop-f

-- a turn: f is a function
module _ (c : Turn) where
  function : IsFunction c.args.table.now c.loop-f.f
  function = (omega arith, omega arith)

abbrev Told : Type 0
Told = lts.After-record_fits tie.the-claims reads.Pre reads.Post goal.the-invariant-loop-f goal.the-decreases-loop-f

-- the test of a record is refusal 5's
tests : (c : Told) → c.record_fits.result ≡ record_fits c.args.table.now c.loop-f.f
unfolding record_fits
tests c =
    c.record_fits.ensures ∙ ap₂ (λ n b. leb n 8 && b)
    (c.params.ensures ∙ c.requires.1.function _ 0 (function (search)) (omega arith))
    (ap (λ n. leb n 32) c.width.ensures ∙ bits_few _ ∙ ap (λ n. leb n 32) (c.requires.1.function _ 1 (function (search)) (omega arith)))

pub loop-f-init : goal.loop-f-init
unfolding all
loop-f-init c = refl

pub returns-then-not-record_fits : goal.returns-then-not-record_fits
returns-then-not-record_fits c = sym (all_fails (record_fits _) _ _ (function (search)).0 (function (search)).1
    (sym (tests (search)) ∙ c.if-not-record_fits.true))

pub loop-f-preserved : goal.loop-f-preserved
loop-f-preserved c =
    all_turn (record_fits _) _ _ (omega arith) (omega arith) c.loop-f.invariant (sym (tests (search)) ∙ c.if-not-record_fits.false)

pub returns-else-not-record_fits : goal.returns-else-not-record_fits
returns-else-not-record_fits c =
    sym (all_turn (record_fits _) _ _ (omega arith) (omega arith) c.loop-f.invariant (sym (tests (search)) ∙ c.if-not-record_fits.false))
