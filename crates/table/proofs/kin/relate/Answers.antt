-- `kin::relate` meets its contract: what names the node is lower, and its slot is filled; function and parent fit one number.
use native.Mathlib.Omega.{arith}
use mathlib.Core.Path.{◌≡◌, ap, ◌∙◌}
use Prim.Native.Nat.{◌≤◌, ◌<◌}
use lib.Dec.{eqb}
use Rattle.table.specs.Pick.{pick}
use Rattle.table.specs.Bytes.{first}
use Rattle.table.specs.Naming.{parent}
use Rattle.table.specs.Decoded.{cell_at, node_slot}
use Rattle.table.proofs.Links.{namer_lower}
use Rattle.table.proofs.FilledLaws.{raw}
use Rattle.table.proofs.Family.{owner_few, parent_lower}
use Rattle.table.proofs.KinLoops.{related, new_owner, new_parent}
use Rattle.table.proofs.kin.relate.Goals as goal
use Rattle.table.proofs.kin.relate.Lts as lts
use Rattle.table.proofs.kin.relate.Reads as reads
use Rattle.table.proofs.kin.relate.Tie as tie

abbrev AfterOwnerOf : Type 0
AfterOwnerOf = lts.After-owner_of tie.the-claims reads.Pre reads.Post

abbrev AfterParentOf : Type 0
AfterParentOf = lts.After-parent_of tie.the-claims reads.Pre reads.Post

abbrev Start : Type 0
Start = lts.Start tie.the-claims reads.Pre reads.Post

-- the function and the parent that were worked out, by what stands in the slot of the node that names this one
own_told : (c : AfterOwnerOf) →
    c.owner_of-own.result.0 ≡ pick (eqb c.args.namer.0 0) c.args.root.0
    (cell_at c.args.cells.now (node_slot c.args.namer.0) 6)
own_told c =
    c.owner_of-own.ensures ∙ ap (λ x. pick (eqb c.args.namer.0 0) c.args.root.0 x) c.owner-mine.ensures

up_told : (c : AfterParentOf) →
    c.parent_of-up.result.0 ≡ pick (eqb c.args.namer.0 0) 0
    (pick (eqb (first c.args.table.now c.args.namer.0) c.args.n.0)
    c.args.namer.0 (cell_at c.args.cells.now (node_slot c.args.namer.0) 7))
up_told c =
    let m = c.args.namer.0 in
    c.parent_of-up.ensures ∙ ap (λ x. pick (eqb m 0) 0 (pick (eqb (first c.args.table.now m) c.args.n.0) m x))
    c.parent-above.ensures

lower : (s : Start) → s.args.namer.0 < s.args.n.0
lower s = omega (arith, s.requires.2, namer_lower s.args.table.now s.args.n.0 s.requires.1.0)

high : (s : Start) → s.args.n.0 ≤ 512
high s = omega (arith, s.requires.1.1, s.requires.0.n_high)

-- both are right, so that they fit one number
module _ (c : AfterParentOf) where
  abbrev s : Start
  s = (search)

  up_parent : c.parent_of-up.result.0 ≡ parent s.args.table.now s.args.n.0
  up_parent = new_parent _ _ _ _ _ s.requires.1.0 (high s) s.requires.4 _ _ _ _ s.requires.2 s.requires.3 (own_told (search)) (up_told c)

  up_few : c.parent_of-up.result.0 < 512
  up_few = omega (arith, up_parent, parent_lower s.args.table.now s.args.n.0 s.requires.1.0, high s)

  own_few : c.owner_of-own.result.0 ≤ 32
  own_few =
      let e = new_owner _ _ _ _ _ s.requires.1.0 (high s) s.requires.4 _ _ _ _ s.requires.2 s.requires.3 (own_told (search)) (up_told c) in
      omega (arith, e, owner_few s.args.table.now s.args.n.0, s.requires.0.f_high)

pub parent_of-up-requires : goal.parent_of-up-requires
parent_of-up-requires c = (raw _ _ c.requires.0 _ c.requires.4, c.requires.1, lower (search))

pub overflow_mul-up : goal.overflow_mul-up
overflow_mul-up c = omega (arith, up_few (search))

pub overflow_add-own : goal.overflow_add-own
overflow_add-own c = omega (arith, up_few (search), own_few (search))

pub returns : goal.returns
returns c = (
  up_parent (search),
  related _ _ _ _ _ c.requires.1.0 (high (search)) c.requires.4 _ _ _ _ c.requires.2 c.requires.3 (own_told (search)) (up_told (search)) _ _
      c.node_slot-slot.ensures.0 c.put.ensures c.requires.1.1 (omega (arith, own_few (search))),
)
