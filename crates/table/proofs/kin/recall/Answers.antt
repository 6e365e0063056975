use native.Mathlib.Omega.{arith}
use Prim.Native.Nat.{ℕ, ◌+◌, ◌*◌, ◌≤◌}
use lib.ListN.{set}
use Rattle.table.specs.Bytes.{nodes}
use mathlib.Core.Path.{◌≡◌, refl, ◌∙◌}
use Rattle.table.specs.Naming.{owner, parent}
use Rattle.table.specs.Working.{IsNode}
use Rattle.table.proofs.KinLoops.{RecalledTo, recalled_none, recalled_all}
use Rattle.table.proofs.Turns.{recalled_turn}
use Rattle.table.proofs.kin.recall.Goals as goal
use Rattle.table.proofs.kin.recall.Lts as lts
use Rattle.table.proofs.kin.recall.Reads as reads
use Rattle.table.proofs.kin.recall.Tie as tie

abbrev Turn : Type 0
Turn = lts.In-loop tie.the-claims reads.Pre reads.Post goal.the-invariant-loop-n goal.the-decreases-loop-n

-- a turn: n is a node
module _ (c : Turn) where
  node : IsNode c.args.table.now c.loop-n.n
  node = (omega arith, omega (arith, c.last-last.ensures, c.requires.1.own 1 (omega arith)))

-- and its function and parent were read
abbrev Read : Type 0
Read = lts.After-parent tie.the-claims reads.Pre reads.Post goal.the-invariant-loop-n goal.the-decreases-loop-n

module _ (c : Read) where
  owned : c.owner-own.result.0 ≡ owner c.args.table.now c.loop-n.n
  owned = c.owner-own.ensures ∙ c.requires.1.node _ 6 (node (search)) (omega arith)

  held : c.parent-up.result.0 ≡ parent c.args.table.now c.loop-n.n
  held = c.parent-up.ensures ∙ c.requires.1.node _ 7 (node (search)) (omega arith)

  turned : (m : ℕ) → m ≡ c.loop-n.n
      → RecalledTo c.args.table.now m (set c.loop-n.kin c.loop-n.n (c.owner-own.result.0 + 64 * c.parent-up.result.0))
  turned m e =
      let room : c.loop-n.n ≤ 512 = omega (arith, (node (search)).1, c.requires.0.n_high) in
      recalled_turn _ m (omega arith) e _ _ c.loop-n.invariant room _ _ owned held

pub loop-n-init : goal.loop-n-init
loop-n-init c = recalled_none _

pub loop-n-preserved : goal.loop-n-preserved
loop-n-preserved c = turned (search) _ (omega arith)

pub returns-2 : goal.returns-2
returns-2 c = recalled_all _ (nodes _) _ c.requires.0 c.requires.2 refl
    (turned (search) (nodes _) (omega (arith, c.last-last.ensures, c.requires.1.own 1 (omega arith))))
