use native.Mathlib.Omega.{arith}
use Prim.Native.Nat.{ℕ, ◌+◌, ◌/◌, ◌%◌, ◌≤◌, ◌<◌}
use mathlib.Core.Path.{◌≡◌, refl, ap, ◌∙◌}
use mathlib.Core.List.{List}
use lib.Dec.{eqb}
use lib.ListN.{get_or, set}
use Rattle.table.specs.Bytes.{nodes, kind}
use Rattle.table.specs.Naming.{owner, parent}
use Rattle.table.specs.Working.{IsNode, At}
use Rattle.table.specs.Sweep.{rank, kin_of, Links, Sifts}
use Rattle.table.proofs.RuleLaws.{one_most}
use Rattle.table.proofs.Family.{parent_lower}
use Rattle.table.proofs.HandLaws.{kin_parent, kin_rank}
use Rattle.table.proofs.HandEnd.{LinkedTo, linked_none}
use Rattle.table.proofs.SiftLoop.{SiftedTo, sifted_none, sifted_all}
use Rattle.table.proofs.Turns.{small_turn, hands_turn, sifted_turn}
use Rattle.table.proofs.sweep.sift.Goals as goal
use Rattle.table.proofs.sweep.sift.Goals.{In_ok-r}
use Rattle.table.proofs.sweep.sift.Lts as lts
use Rattle.table.proofs.sweep.sift.Reads as reads
use Rattle.table.proofs.sweep.sift.Tie as tie

abbrev Turn : Type 0
Turn = lts.In-loop tie.the-claims reads.Pre reads.Post goal.the-invariant-loop-n goal.the-decreases-loop-n tie.handed_clauses

-- a turn: n is a node
module _ (c : Turn) where
  abbrev table : List ℕ
  table = c.args.table.now

  abbrev n : ℕ
  n = c.loop-n.n

  node : IsNode table n
  node = (omega arith, omega arith)

  room : n < 513
  room = omega (arith, node.1, c.requires.0.n_high)

  place : At table c.base-base.result n
  place = record { framed = c.requires.0; start = c.base-base.ensures; low = node.0; high = node.1 }

  abbrev own : ℕ
  own = get_or c.loop-n.kin n 0

-- the node has handed on, so it has its kin
abbrev Handing : Type 0
Handing = lts.Else1 tie.the-claims reads.Pre reads.Post goal.the-invariant-loop-n goal.the-decreases-loop-n tie.handed_clauses

module _ (c : Handing) where
  links : Links (table (search)) (n (search)) c.loop-n.kin c.hand_on.new.kin
  links = c.hand_on.ensures (c.if-not-hand_on.false)

  on : (own (search) ≡ kin_of (table (search)) (n (search))) × (1 ≤ owner (table (search)) (n (search)))
      × ((u r : ℕ) → u ≡ parent (table (search)) (n (search)) → r ≡ rank (table (search)) (n (search))
      → LinkedTo (table (search)) (n (search)) c.hand_on.new.kin (set c.loop-n.kids u r))
  on = hands_turn _ _ (omega arith) refl _ _ _ _ c.requires.0 (node (search)) c.loop-n.invariant.0 links

  kin : own (search) ≡ kin_of (table (search)) (n (search))
  kin = on.0

  up : own (search) / 64 % 1024 ≡ parent (table (search)) (n (search))
  up = kin_parent _ c.requires.0 _ (node (search)) _ kin

  inside : own (search) / 64 % 1024 < 513
  inside = omega (arith, up, parent_lower (table (search)) (n (search)) (node (search)).0, (node (search)).1, c.requires.0.n_high)

-- and has passed
module _ (c : In_ok-r) where
  abbrev t : Turn
  t = (search)

  abbrev inherited : ℕ
  inherited = get_or c.loop-n.offspring c.parent-up.result.0 0

  sifts : Sifts (table t) (n t) inherited c.in_ok-r.r
  sifts = c.in_ok-r.ensures

  bound_few : c.in_ok-r.r.bound ≤ 1
  bound_few = omega (arith, sifts.bound, one_most (eqb (kind (table t) (n t)) 7))

  parents : c.parent-up.result.0 ≡ parent (table t) (n t)
  parents = c.parent-up.ensures ∙ up (search)

  turned : (m : ℕ) → m ≡ n t
      → LinkedTo (table t) m c.hand_on.new.kin (set c.loop-n.kids c.parent-up.result.0 (own t / 65536))
      × SiftedTo (table t) m (set c.loop-n.wanted (n t) c.in_ok-r.r.wants) (set c.loop-n.offspring (n t) c.in_ok-r.r.down)
      (set c.loop-n.bounds c.loop-n.count (n t)) (c.loop-n.count + c.in_ok-r.r.bound)
  turned m e = (
    rw e ((on (search)).2 _ _ parents (kin_rank _ c.requires.0 _ (node t) _ (kin (search)))),
    sifted_turn _ m (omega arith) e _ _ _ _ _ c.loop-n.invariant.1 (omega (arith, room t)) _
        (ap (λ x. get_or c.loop-n.offspring x 0) parents) _ sifts,
  )

pub loop-n-init : goal.loop-n-init
loop-n-init c = let p = c.requires in
    (linked_none _ _ _ p.1 p.3, sifted_none _ _ _ _ p.4 p.5 p.6)

pub hand_on-requires : goal.hand_on-requires
hand_on-requires c = let h = c.loop-n.invariant.0.handed in
    (place (search), c.last_node-last.ensures, h.size, small_turn _ _ (omega arith) refl _ _ c.requires.0 (node (search)) h)

pub returns-then-not-hand_on : goal.returns-then-not-hand_on
returns-then-not-hand_on c = tt

pub node-requires : goal.node-requires
node-requires c = (
  record {
    place = place (search);
    roots = c.requires.2;
    kin = kin (search);
    owned = (on (search)).1;
  },
  c.rules-rules.ensures,
)

pub overflow_cast-kids : goal.overflow_cast-kids
overflow_cast-kids c = record {
  fits = omega (arith, small_turn _ _ (omega arith) refl _ _ c.requires.0 (node (search)) c.loop-n.invariant.0.handed);
}

pub overflow_add-count : goal.overflow_add-count
overflow_add-count c = record {
  fits = omega (
    arith,
    c.loop-n.invariant.1.bounded.few,
    (node (search)).1,
    c.requires.0.n_high,
    bound_few (goal.at.overflow_add-count c).In_ok-r,
  );
}

pub loop-n-preserved : goal.loop-n-preserved
loop-n-preserved c = turned (goal.at.loop-n-preserved c).In_ok-r _ (omega arith)

pub bounds-offspring-up : goal.bounds-offspring-up
bounds-offspring-up c = omega (arith, c.parent-up.ensures, inside (search))

pub bounds-kids-up : goal.bounds-kids-up
bounds-kids-up c = omega (arith, c.parent-up.ensures, inside (search))

pub returns-in_ok-r : goal.returns-in_ok-r
returns-in_ok-r c = let s = turned (goal.at.returns-in_ok-r c).In_ok-r _ (omega arith) in
    sifted_all _ _ _ (nodes _) _ _ _ _ refl s.0 c.requires.2 s.1
