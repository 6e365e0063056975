use native.Mathlib.Omega.{arith}
use mathlib.Core.Path.{◌≡◌, refl, sym, ◌∙◌}
use Prim.Native.Nat.{◌+◌, ◌-◌, ◌*◌, ◌<◌}
use Rattle.table.specs.Bytes.{functions, nodes, node_at, kind, first, next}
use Rattle.table.specs.Working.{IsNode, Filled}
use Rattle.table.proofs.FilledLaws.{filled_at}
use Rattle.table.proofs.Loops.{bumped_few}
use Rattle.table.proofs.NameLoops.{links_none, links_all}
use Rattle.table.proofs.Turns.{back, node_turn, links_turn}
use Rattle.table.proofs.names.links.Goals as goal
use Rattle.table.proofs.names.links.Lts as lts
use Rattle.table.proofs.names.links.Reads as reads
use Rattle.table.proofs.names.links.Tie as tie

abbrev Turn : Type 0
Turn = lts.In-loop tie.the-claims reads.Pre reads.Post goal.the-invariant-loop-n goal.the-decreases-loop-n

-- a turn: n is a node, and its slot is filled
module _ (c : Turn) where
  node : IsNode c.args.table.now c.loop-n.n
  node = (omega arith, omega arith)

-- a kind is a byte
small : (c : Turn) → kind c.args.table.now c.loop-n.n < 256
unfolding kind
small c = omega (arith, c.shared_slice_known-1.given (node_at c.args.table.now c.loop-n.n))

abbrev Decoded : Type 0
Decoded = lts.After-node tie.the-claims reads.Pre reads.Post goal.the-invariant-loop-n goal.the-decreases-loop-n

filled : (c : Decoded) → Filled c.args.table.now (functions c.args.table.now) c.loop-n.n 0
    c.node.new.cells
filled c =
    node_turn _ _ _ _ (omega arith) refl (omega (arith, (node (search)).1, c.requires.0.n_high)) _ c.loop-n.invariant.1
    (small (search)) _ c.node.ensures

-- and what was read of it
abbrev Read : Type 0
Read = lts.After-next tie.the-claims reads.Pre reads.Post goal.the-invariant-loop-n goal.the-decreases-loop-n

first_read : (c : Read) →
    c.first-first.result.0 ≡ first c.args.table.now c.loop-n.n
first_read c =
    c.first-first.ensures ∙ filled_at _ _ _ _ _ _ (node (search)).0 (omega
    (arith, (node (search)).1, c.requires.0.n_high)) (filled (search)) 4
    (omega arith) (omega arith)

next_read : (c : Read) →
    c.next-next.result.0 ≡ next c.args.table.now c.loop-n.n
next_read c =
    c.next-next.ensures ∙ filled_at _ _ _ _ _ _ (node (search)).0 (omega
    (arith, (node (search)).1, c.requires.0.n_high)) (filled (search)) 5
    (omega arith) (omega arith)

pub loop-n-init : goal.loop-n-init
loop-n-init c = (links_none _ _ _ c.requires.1 c.requires.2, c.requires.3)

pub node-requires : goal.node-requires
node-requires c = record { framed = c.requires.0; start = c.base-base.ensures; low = (node (search)).0; high = (node (search)).1 }

pub overflow_add-mentions : goal.overflow_add-mentions
overflow_add-mentions c = omega (
  arith,
  c.loop-n.invariant.0.few c.slot-a.result,
  (node (search)).1,
  c.requires.0.n_high,
  c.requires.0.f_high,
)

pub overflow_add-mentions-in-loop-n : goal.overflow_add-mentions-in-loop-n
overflow_add-mentions-in-loop-n c =
    let before = functions c.args.table.now + 2 * (c.loop-n.n - 1) in
    let few = bumped_few c.loop-n.mentions c.slot-a.result before c.loop-n.invariant.0.few c.slot-b.result in
    omega (arith, few, (node (search)).1, c.requires.0.n_high, c.requires.0.f_high)

pub loop-n-preserved : goal.loop-n-preserved
loop-n-preserved c = (
  links_turn _ _ (omega arith) (omega arith) _ _ _ _ c.loop-n.invariant.0 _ _ _ _ _ _ (first_read (search)) (next_read (search))
      c.slot-a.ensures.0 c.slot-b.ensures.0 c.ahead-c.ensures.0 c.ahead-d.ensures.0,
  rw back (filled (search)),
)

pub returns-2 : goal.returns-2
returns-2 c = let e : c.loop-n.n ≡ nodes c.args.table.now = omega arith in
    let turned = links_turn _ _ (omega arith) (sym e) _ _ _ _ c.loop-n.invariant.0 _ _ _ _ _ _ (first_read (search)) (next_read (search))
    c.slot-a.ensures.0 c.slot-b.ensures.0 c.ahead-c.ensures.0 c.ahead-d.ensures.0 in
    (links_all _ _ _ _ c.requires.0 c.requires.1 turned, rw e at (filled (search)))
