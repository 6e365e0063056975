use native.Mathlib.Omega.{arith}
use Prim.Native.Nat.{ℕ, ◌+◌, ◌≤◌, ◌<◌}
use mathlib.Core.Path.{◌≡◌}
use lib.ListN.{set}
use Rattle.table.specs.Bytes.{nodes, root}
use native.Mathlib.Decide.{ℕ_discrete}
use Rattle.table.specs.Check.{root_fits}
use Rattle.table.specs.Working.{IsFunction, IsNode}
use Rattle.table.proofs.Passed.{in_range}
use Rattle.table.specs.Sweep.{Handed, RootFits, RootsFit}
use Rattle.table.proofs.Tests.{never}
use Rattle.table.proofs.HandSteps.{handed_none}
use Rattle.table.proofs.Turns.{root_turn}
use Rattle.table.proofs.linking.roots.Goals as goal
use Rattle.table.proofs.linking.roots.Lts as lts
use Rattle.table.proofs.linking.roots.Reads as reads
use Rattle.table.proofs.linking.roots.Tie as tie

abbrev Turn : Type 0
Turn = lts.In-loop tie.the-claims reads.Pre reads.Post goal.the-invariant-loop-f goal.the-decreases-loop-f

-- a turn: f is a function
module _ (c : Turn) where
  function : IsFunction c.args.table.now c.loop-f.f
  function = (omega arith, omega arith)

-- and its root was read
abbrev Root : Type 0
Root = lts.After-root tie.the-claims reads.Pre reads.Post goal.the-invariant-loop-f goal.the-decreases-loop-f

fits : (c : Root) → RootFits c.args.table.now c.loop-f.f
fits c =
    c.root_fits.ensures (c.if-not-root_fits.false)

node : (c : Root) → IsNode c.args.table.now c.root-at.result.0
unfolding root_fits
node c =
    let t = c.args.table.now in
    let i = in_range 1 (nodes t) (root t c.loop-f.f) (fits c).inside in
    (omega (arith, c.root-at.ensures, i.0), omega (arith, c.root-at.ensures, i.1))

inside : (c : Root) → c.root-at.result.0 < 513
inside c = omega (arith, (node c).1, c.requires.0.n_high)

fit : (c : Root) (g : ℕ) → 1 ≤ g → g ≤ c.loop-f.f → Dec (g ≡ c.loop-f.f)
    → RootFits c.args.table.now g
fit c g a b (yes e) = rw e (fits c)
fit c g a b (no e) = c.loop-f.invariant.1 g a (omega arith)

pub bounds-kin-at : goal.bounds-kin-at
bounds-kin-at c = inside (search)

pub bounds-kin-at-in-loop-f : goal.bounds-kin-at-in-loop-f
bounds-kin-at-in-loop-f c = inside (search)

abbrev Turned : Type 0
Turned = lts.Else2 tie.the-claims reads.Pre reads.Post goal.the-invariant-loop-f goal.the-decreases-loop-f

-- function f is handed to its root after those below it
turned : (c : Turned) (m : ℕ) → m ≡ c.loop-f.f
    → Handed c.args.table.now m 0 (set c.loop-f.kin c.root-at.result.0 (c.loop-f.f + 65536)) × RootsFit c.args.table.now m
turned c m e = (
  root_turn _ m (omega arith) e _ _ c.requires.0 c.loop-f.invariant.0 _ c.root-at.ensures (node (search)) c.if-kin-at-ne0.false,
  λ g a b. fit (search) g a (omega arith) (ℕ_discrete g c.loop-f.f),
)

pub loop-f-init : goal.loop-f-init
loop-f-init c = (handed_none _ _ c.requires.1, λ g a b. absurd (omega arith))

pub root_fits-requires : goal.root_fits-requires
root_fits-requires c = (c.requires.0, function (search), c.base-base.ensures, c.last_node-last.ensures)

pub returns-then-not-root_fits : goal.returns-then-not-root_fits
returns-then-not-root_fits c = never

pub root-at-requires : goal.root-at-requires
root-at-requires c = (c.requires.0, function (search))

pub returns-then-kin-at-ne0 : goal.returns-then-kin-at-ne0
returns-then-kin-at-ne0 c = never

pub loop-f-preserved : goal.loop-f-preserved
loop-f-preserved c = turned (search) _ (omega arith)

pub returns-else-kin-at-ne0 : goal.returns-else-kin-at-ne0
returns-else-kin-at-ne0 c e = turned (search) _ (omega arith)
