use native.Mathlib.Omega.{arith}
use Prim.Native.Nat.{ℕ}
use mathlib.Core.Path.{◌≡◌, refl, sym, ap, ◌∙◌}
use Rattle.table.specs.Bytes.{functions, nodes}
use Rattle.table.specs.Decoded.{put_numbers, node_slot, node_number, functions_put, nodes_put, decoded_into}
use Rattle.table.specs.Working.{IsNode}
use Rattle.table.proofs.Turns.{nodes_turn}
use Rattle.table.proofs.decode.fill.Goals as goal
use Rattle.table.proofs.decode.fill.Lts as lts
use Rattle.table.proofs.decode.fill.Reads as reads
use Rattle.table.proofs.decode.fill.Tie as tie

abbrev Turn : Type 0
Turn = lts.In-loop tie.the-claims reads.Pre reads.Post goal.the-invariant-loop-n goal.the-decreases-loop-n

-- a turn: n is a node
module _ (c : Turn) where
  node : IsNode c.args.table.now c.loop-n.n
  node = (omega arith, omega arith)

-- and is put after those below it
abbrev Turned : Type 0
Turned = lts.After-whole tie.the-claims reads.Pre reads.Post goal.the-invariant-loop-n goal.the-decreases-loop-n

turned : (c : Turned) (m : ℕ) → m ≡ c.loop-n.n → c.whole.new.cells ≡ nodes_put c.args.table.now m c.functions.new.cells
turned c m e =
    let t = c.args.table.now in
    let n = c.loop-n.n in
    c.whole.ensures ∙ ap (put_numbers 6 (node_slot n) (node_number t n)) c.loop-n.invariant
    ∙ sym (nodes_turn t c.functions.new.cells n m (omega arith) e)

pub functions-requires : goal.functions-requires
functions-requires c = (c.requires.0, c.last_function.ensures)

pub loop-n-init : goal.loop-n-init
unfolding nodes_put
loop-n-init c = refl

pub whole-requires : goal.whole-requires
whole-requires c = (
  record { framed = c.requires.0; start = c.base-base.ensures; low = (node (search)).0; high = (node (search)).1 },
  c.requires.1.owners _ (node (search)),
  c.requires.1.parents _ (node (search)),
)

pub loop-n-preserved : goal.loop-n-preserved
loop-n-preserved c = turned (search) _ (omega arith)

pub returns-2 : goal.returns-2
unfolding decoded_into
returns-2 c = let t = c.args.table.now in
    turned (search) _ (omega arith)
    ∙ ap (nodes_put t (nodes t)) (c.functions.ensures ∙ ap (functions_put t (functions t)) c.sizes.ensures)
