use native.Mathlib.Omega.{arith}
use mathlib.Core.Path.{◌≡◌, sym}
use lib.ListN.{set}
use Rattle.table.specs.Decoded.{cell_at, table_slot}
use Prim.Native.Nat.{ℕ, ◌≤◌, ◌<◌}
use Rattle.table.specs.Bytes.{nodes}
use Rattle.table.specs.Working.{IsNode}
use Rattle.table.proofs.FilledLaws.{raw, sizes_filled}
use Rattle.table.proofs.Family.{parent_lower}
use Rattle.table.proofs.KinLoops.{TailsTo, tails_none, tails_all}
use Rattle.table.proofs.Turns.{back, tails_turn}
use Rattle.table.proofs.kin.collect.Goals as goal
use Rattle.table.proofs.kin.collect.Lts as lts
use Rattle.table.proofs.kin.collect.Reads as reads
use Rattle.table.proofs.kin.collect.Tie as tie

abbrev Turn : Type 0
Turn = lts.In-loop tie.the-claims reads.Pre reads.Post goal.the-invariant-loop-n goal.the-decreases-loop-n

abbrev Up : Type 0
Up = lts.After-relate tie.the-claims reads.Pre reads.Post goal.the-invariant-loop-n goal.the-decreases-loop-n

-- a turn: n is a node
module _ (c : Turn) where
  node : IsNode c.args.table.now c.loop-n.n
  node = (omega arith, omega (arith, c.last-last.ensures, count))
    where
      count : cell_at c.args.cells.now table_slot 2 ≡ nodes c.args.table.now
      count = sizes_filled _ _ c.requires.0 _ _ _ c.requires.3 1 (omega arith)

  room : c.loop-n.n ≤ 512
  room = omega (arith, node.1, c.requires.0.n_high)

up_lower : (c : Up) → c.relate-up.result.0 < c.loop-n.n
up_lower c =
    omega (arith, c.relate-up.ensures.0, parent_lower c.args.table.now c.loop-n.n (omega arith))

abbrev Turned : Type 0
Turned = lts.After-tail_of tie.the-claims reads.Pre reads.Post goal.the-invariant-loop-n goal.the-decreases-loop-n

-- node n's tail position is put beside those below it
turned : (c : Turned) (m : ℕ) → m ≡ c.loop-n.n → TailsTo c.args.table.now (set c.loop-n.tail c.loop-n.n c.tail_of.result) m
turned c m e = tails_turn _ m (omega arith) e _ _ c.loop-n.invariant.1 (room (search)) _ c.relate-up.ensures.0 _ c.tail_of.ensures

pub loop-n-init : goal.loop-n-init
loop-n-init c = (c.requires.3, tails_none _)

pub relate-up-requires : goal.relate-up-requires
relate-up-requires c = (c.requires.0, node (search), c.requires.2 _ (node (search)), c.requires.1 _ (node (search)), c.loop-n.invariant.0)

pub tail_of-requires : goal.tail_of-requires
tail_of-requires c = (raw _ _ c.requires.0 _ c.relate-up.ensures.1, node (search), omega (arith, up_lower (search)))

pub loop-n-preserved : goal.loop-n-preserved
loop-n-preserved c = (rw back c.relate-up.ensures.1, turned (search) _ (omega arith))

pub bounds-tail-p : goal.bounds-tail-p
bounds-tail-p c = omega (arith, room (search), up_lower (search))

pub returns-2 : goal.returns-2
returns-2 c =
    let e : c.loop-n.n ≡ nodes c.args.table.now = omega (
      arith,
      c.last-last.ensures,
      sizes_filled _ _ c.requires.0 _ _ _ c.requires.3 1 (omega arith),
    ) in
    (tails_all _ _ (turned (search) _ (sym e)), rw e at c.relate-up.ensures.1)
