use native.Mathlib.Omega.{arith}
use mathlib.Core.Path.{◌≡◌, refl, sym, ap₂, ◌∙◌}
use Rattle.table.specs.Find.{all}
use Rattle.table.specs.Check.{among, root_fits}
use Rattle.table.specs.Working.{IsFunction}
use Rattle.table.proofs.Loops.{all_fails}
use Rattle.table.proofs.Turns.{all_turn}
use Rattle.table.proofs.FilledLaws.{function_filled}
use Rattle.table.proofs.frame.roots_fit.Goals as goal
use Rattle.table.proofs.frame.roots_fit.Lts as lts
use Rattle.table.proofs.frame.roots_fit.Reads as reads
use Rattle.table.proofs.frame.roots_fit.Tie as tie

abbrev Turn : Type 0
Turn = lts.In-loop tie.the-claims reads.Pre reads.Post goal.the-invariant-loop-f goal.the-decreases-loop-f

-- a turn: f is a function
module _ (c : Turn) where
  function : IsFunction c.args.table.now c.loop-f.f
  function = (omega arith, omega arith)

abbrev Told : Type 0
Told = lts.After-root_fits tie.the-claims reads.Pre reads.Post goal.the-invariant-loop-f goal.the-decreases-loop-f

-- the test of a root is refusal 4's
tests : (c : Told) → c.root_fits.result ≡ root_fits c.args.table.now c.loop-f.f
unfolding root_fits
tests c =
    let i = function (search) in
    c.root_fits.ensures ∙ ap₂ (λ n m. among 1 n m) c.last_node-last.ensures (c.root.ensures
    ∙ function_filled _ _ _ _ _ c.requires.1 _ 2 i.0 i.1 (omega (arith, i.1, c.requires.0.f_high)) (omega arith))

pub loop-f-init : goal.loop-f-init
unfolding all
loop-f-init c = refl

pub returns-then-not-root_fits : goal.returns-then-not-root_fits
returns-then-not-root_fits c = sym (all_fails (root_fits _) _ _ (function (search)).0 (function (search)).1
    (sym (tests (search)) ∙ c.if-not-root_fits.true))

pub loop-f-preserved : goal.loop-f-preserved
loop-f-preserved c =
    all_turn (root_fits _) _ _ (omega arith) (omega arith) c.loop-f.invariant (sym (tests (search)) ∙ c.if-not-root_fits.false)

pub returns-else-not-root_fits : goal.returns-else-not-root_fits
returns-else-not-root_fits c =
    sym (all_turn (root_fits _) _ _ (omega arith) (omega arith) c.loop-f.invariant (sym (tests (search)) ∙ c.if-not-root_fits.false))
