use Rattle.std.proofs.Common.{◌≡◌, ℕ, ◌<◌, ◌≤◌, true, List, sym, refl, ◌∙◌, subst, arith}
use Rattle.table.specs.Bytes.{kind, word, first, next, root}
use Rattle.table.specs.Decoded.{cell_at, node_slot}
use Rattle.table.specs.Working.{IsFunction, Decoded}
use Rattle.list.specs.Tags.{reached}
use Rattle.list.specs.Working.{Bit, Within, KindTo}
use Rattle.list.proofs.BitLaws.{bit_is}
use Rattle.list.proofs.NodeLaws.{told, told_callee, few, root_there, first_there, next_there}
use Rattle.list.proofs.NodeLaws.{choosing, binding, beside_binding, beside_apart}
use Rattle.list.proofs.OntoLaws.{onto_none, onto_one}
use Rattle.list.proofs.SiblingLaws.{along_none, along_more, along_body, along_last}
use Rattle.list.proofs.ChainLaws.{kids_none, kids_one, side_idle, side_all}
use Rattle.list.proofs.NodeWalks.{at_low, at_high, at_choice, at_let, at_apart, at_body}
use Rattle.list.proofs.NodeWalks.{call_kind, at_same, at_again, callee_there, callee_reached, at_entry}
use Rattle.list.proofs.walk.+walk.Goals as goal

-- the body of a function, walked once and kept: what was read is its root
pub body_walk-bounds-kept-at : goal.body_walk-bounds-kept-at
body_walk-bounds-kept-at t c = omega (arith, (few _ c.requires.taken.0).0)

pub body_walk-bounds-kept-at-2 : goal.body_walk-bounds-kept-at-2
body_walk-bounds-kept-at-2 t c = omega (arith, (few _ c.requires.taken.0).0)

pub body_walk-bounds-kept-at-3 : goal.body_walk-bounds-kept-at-3
body_walk-bounds-kept-at-3 t c = omega (arith, (few _ c.requires.taken.0).0)

pub body_walk-node_walk-mask-requires : goal.body_walk-node_walk-mask-requires
body_walk-node_walk-mask-requires t c =
    let ok = c.requires.taken.0 in
    let i = c.requires.taken.1 in
    let e : c.root-root.result.0 ≡ root c.args.design.now.table.now c.args.g.0 =
    c.root-root.ensures ∙ c.args.design.now.read.told.function _ 2 i (omega arith) in
    let w = subst (Within _ _) (sym e) (root_there _ ok _ i c.requires.taken.2) in (
      omega (arith, c.decreases, (few _ ok).1, w.node.0),
      (w, c.requires.memo),
    )

pub body_walk-returns : goal.body_walk-returns
body_walk-returns t c =
    let i = c.requires.taken.1 in
    let e : c.root-root.result.0 ≡ root c.args.design.now.table.now c.args.g.0 =
    c.root-root.ensures ∙ c.args.design.now.read.told.function _ 2 i (omega arith) in
    at_body _ c.requires.taken.0 _ _ _ _ _ _ i e c.node_walk-mask.ensures

-- siblings, one after the other
pub chain_walk-loop-next-init : goal.chain_walk-loop-next-init
chain_walk-loop-next-init t c = (
  along_none _ _ _ _ _ _ c.requires.within c.told-set c.requires.memo,
  told _ _ _ _ c.args.design.now.read.told c.requires.within 5 _ (omega arith) c.next-next.ensures,
)

pub chain_walk-loop-next-smaller : goal.chain_walk-loop-next-smaller
chain_walk-loop-next-smaller t c =
    let i = c.loop-next.invariant in
    let u = next_there _ _ _ i.0.here (λ q. c.loop-next-test.true (i.1 ∙ q)) in
    omega (arith, i.1, u.1, u.0.node.1)

-- the next sibling is a node of this function
pub chain_walk-loop-next-preserved : goal.chain_walk-loop-next-preserved
chain_walk-loop-next-preserved t c =
    let i = c.loop-next.invariant in
    let z = c.loop-next-test.true in
    let on = subst (Within _ _) (sym i.1) (next_there _ _ _ i.0.here (λ q. z (i.1 ∙ q))).0 in (
      along_more _ _ _ _ _ _ _ _ _ _ _ i.0 _ _ _ _ (λ q. z (i.1 ∙ q)) i.1 c.node_walk-mask.ensures,
      told _ _ _ _ c.args.design.now.read.told on 5 _ (omega arith) c.next-next-in-loop-next.ensures,
    )

pub chain_walk-returns-then-defs : goal.chain_walk-returns-then-defs
chain_walk-returns-then-defs t c =
    let i = c.loop-next.invariant in
    along_body _ _ _ _ _ _ _ _ _ _ _ i.0 _ c.if-defs.true refl (sym i.1 ∙ c.loop-next-test.false)

pub chain_walk-returns : goal.chain_walk-returns
chain_walk-returns t c =
    let i = c.loop-next.invariant in
    along_last _ _ _ _ _ _ _ _ _ _ _ i.0 _ _ _ _ c.if-defs.false (sym i.1 ∙ c.loop-next-test.false)
    c.node_walk-mask-2.ensures

-- what a primitive or a call calls besides its children: what was read of a call is its word and its function
module _ {t : List ℕ} {f n k : ℕ} (cells : List ℕ) (y : Decoded t cells) (at : Within t f n) (e : KindTo t n k 4) (q : k ≡ 3 → ⊥) where
  module _ {g : ℕ} (h : g ≡ cell_at cells (node_slot n) 2) where
    callees : g ≡ word t n
    callees = told_callee _ _ _ _ y at (call_kind _ _ _ at _ e q) _ h

    module _ {o : ℕ} (p : o ≡ cell_at cells (node_slot n) 6) where
      owners : o ≡ f
      owners = told _ _ _ _ y at 6 _ (omega arith) p ∙ at.own

      -- past the tests, it is a call of another function
      module _ (z : g ≡ o → ⊥) where
        other : g ≡ f → ⊥
        other x = z (x ∙ sym owners)

        there : IsFunction t g × (g < f) × (g ≤ 31)
        there = callee_there _ _ _ at _ _ e q callees other

        reaches : reached t g ≡ true
        reaches = callee_reached _ _ _ at _ _ e q callees other

-- a node has a bit
bit : {t : List ℕ} {f n : ℕ} → Within t f n → Bit n
bit w = (w.node.0, omega (arith, w.node.1, (few _ w.taken).1))

pub enter_walk-returns-then-kind-eq3 : goal.enter_walk-returns-then-kind-eq3
enter_walk-returns-then-kind-eq3 t c =
    onto_none _ _ _ _ _ _ _ _
    (at_same _ _ _ c.requires.within _ _ _ c.requires.kind_to c.if-kind-eq3.true c.told-set c.requires.memo)

pub enter_walk-returns-then-g-own : goal.enter_walk-returns-then-g-own
enter_walk-returns-then-g-own t c =
    let r = c.requires in
    let q = c.if-kind-eq3.false in
    onto_none _ _ _ _ _ _ _ _
    (at_again _ _ _ r.within _ _ _ _ r.kind_to q (callees _ c.args.design.now.read.told r.within r.kind_to q c.callee-g.ensures)
    (c.if-g-own.true ∙ owners _ c.args.design.now.read.told r.within r.kind_to q c.callee-g.ensures c.owner-own.ensures) c.told-set r.memo)

pub enter_walk-body_walk-requires : goal.enter_walk-body_walk-requires
enter_walk-body_walk-requires t c =
    let r = c.requires in
    let q = c.if-kind-eq3.false in
    let u = there _ c.args.design.now.read.told r.within r.kind_to q c.callee-g.ensures c.owner-own.ensures c.if-g-own.false in
    let v = reaches _ c.args.design.now.read.told r.within r.kind_to q c.callee-g.ensures c.owner-own.ensures c.if-g-own.false in (
      omega (arith, c.decreases, u.1, (few _ r.within.taken).1),
      ((r.within.taken, u.0, v), r.memo),
    )

pub enter_walk-put-requires : goal.enter_walk-put-requires
enter_walk-put-requires t c = bit c.requires.within

pub enter_walk-put-requires-2 : goal.enter_walk-put-requires-2
enter_walk-put-requires-2 t c = bit c.requires.within

pub enter_walk-overflow_shl-result : goal.enter_walk-overflow_shl-result
enter_walk-overflow_shl-result t c =
    let r = c.requires in
    let q = c.if-kind-eq3.false in
    let u = there _ c.args.design.now.read.told r.within r.kind_to q c.callee-g.ensures c.owner-own.ensures c.if-g-own.false in
    omega (arith, u.2)

pub enter_walk-returns : goal.enter_walk-returns
enter_walk-returns t c =
    let r = c.requires in
    let q = c.if-kind-eq3.false in
    let z = c.if-g-own.false in
    let u = there _ c.args.design.now.read.told r.within r.kind_to q c.callee-g.ensures c.owner-own.ensures z in
    onto_one _ _ _ _ _ _ _ _ _
    (at_entry _ _ _ r.within _ _ _ _ _ _ _ _ _ r.kind_to q (callees _ c.args.design.now.read.told r.within r.kind_to q c.callee-g.ensures)
    (other _ c.args.design.now.read.told r.within r.kind_to q c.callee-g.ensures c.owner-own.ensures z) (bit_is _ 32 (omega (arith, u.2)))
    c.body_walk.ensures c.join.ensures c.put.ensures c.put-2.ensures)

-- a node that has more to it, by its kind
pub inner_walk-chain_walk-r-requires : goal.inner_walk-chain_walk-r-requires
inner_walk-chain_walk-r-requires t c =
    let r = c.requires in
    let e : c.first-first.result.0 ≡ first c.args.design.now.table.now c.args.n.0 =
    told _ _ _ _ c.args.design.now.read.told r.within 4 _ (omega arith) c.first-first.ensures in
    let u = choosing _ c.args.f.0 c.args.n.0 r.within (sym r.kind_to.is ∙ c.if-kind-eq5.true) in (
      omega (arith, c.decreases, e, u.past, u.there.node.1),
      (subst (Within _ _) (sym e) u.there, r.memo),
    )

pub inner_walk-returns-then-kind-eq5 : goal.inner_walk-returns-then-kind-eq5
inner_walk-returns-then-kind-eq5 t c =
    let r = c.requires in
    let e : c.first-first.result.0 ≡ first c.args.design.now.table.now c.args.n.0 =
    told _ _ _ _ c.args.design.now.read.told r.within 4 _ (omega arith) c.first-first.ensures in
    onto_one _ _ _ _ _ _ _ _ _
    (at_choice _ _ _ r.within _ _ _ _ _ _ _ r.kind_to.is c.if-kind-eq5.true e c.chain_walk-r.ensures)

pub inner_walk-side_walk-r-requires : goal.inner_walk-side_walk-r-requires
inner_walk-side_walk-r-requires t c =
    let r = c.requires in
    let k = sym r.kind_to.is ∙ c.if-kind-eq6.true in
    let b = beside_binding _ c.args.f.0 c.args.n.0 r.within k in
    let u = binding _ c.args.f.0 c.args.n.0 r.within k in (
      omega (arith, c.decreases),
      (r.within, ((b, u.some_child), r.memo)),
    )

pub inner_walk-node_walk-requires : goal.inner_walk-node_walk-requires
inner_walk-node_walk-requires t c =
    let r = c.requires in
    let w = r.within in
    let s = c.side_walk-r.ensures in
    let l = s.last refl in
    let q = (binding _ c.args.f.0 c.args.n.0 w (sym r.kind_to.is ∙ c.if-kind-eq6.true)).past in (
      omega (arith, c.decreases, q, l.2, l.0.1),
      (record { taken = w.taken; node = l.0; own = l.1; in_reach = w.in_reach }, s.walk.memo),
    )

pub inner_walk-returns-then-kind-eq6 : goal.inner_walk-returns-then-kind-eq6
inner_walk-returns-then-kind-eq6 t c =
    at_let _ _ _ c.requires.within _ _ _ _ _ _ _ _ _ _ c.requires.kind_to.is c.if-kind-eq6.true c.side_walk-r.ensures
    c.node_walk.ensures

pub inner_walk-kids_walk-requires : goal.inner_walk-kids_walk-requires
inner_walk-kids_walk-requires t c =
    let r = c.requires in
    let k = r.kind_to in
    let w = c.enter_walk-own.ensures.walk in
    let b = beside_apart _ _ _ r.within (omega (arith, k.is, k.low))
    (omega (arith, k.is, k.high, c.if-kind-eq5.false, c.if-kind-eq6.false)) in
    (omega (arith, c.decreases), (r.within, (b, w.memo)))

pub inner_walk-returns : goal.inner_walk-returns
inner_walk-returns t c =
    at_apart _ _ _ c.requires.within _ _ _ _ _ _ _ _ _ _ c.requires.kind_to c.if-kind-eq5.false c.if-kind-eq6.false
    c.enter_walk-own.ensures c.kids_walk.ensures

-- the children of a node: none, one alone, or several side by side
pub kids_walk-returns-then-first-eq0 : goal.kids_walk-returns-then-first-eq0
kids_walk-returns-then-first-eq0 t c =
    let r = c.requires in
    let e : c.first-first.result.0 ≡ first c.args.design.now.table.now c.args.n.0 =
    told _ _ _ _ c.args.design.now.read.told r.within 4 _ (omega arith) c.first-first.ensures in
    onto_none _ _ _ _ _ _ _ _ (kids_none _ _ _ r.within _ _ (sym e ∙ c.if-first-eq0.true) c.told-set r.memo)

-- the first child is a node of this function
pub kids_walk-node_walk-requires : goal.kids_walk-node_walk-requires
kids_walk-node_walk-requires t c =
    let r = c.requires in
    let e : c.first-first.result.0 ≡ first c.args.design.now.table.now c.args.n.0 =
    told _ _ _ _ c.args.design.now.read.told r.within 4 _ (omega arith) c.first-first.ensures in
    let u = first_there _ c.args.f.0 c.args.n.0 r.within (λ q. c.if-first-eq0.false (e ∙ q)) in (
      omega (arith, c.decreases, e, u.1, u.0.node.1),
      (subst (Within _ _) (sym e) u.0, r.memo),
    )

-- and what was read of it is its next sibling
pub kids_walk-returns-then-next-eq0 : goal.kids_walk-returns-then-next-eq0
kids_walk-returns-then-next-eq0 t c =
    let r = c.requires in
    let e : c.first-first.result.0 ≡ first c.args.design.now.table.now c.args.n.0 =
    told _ _ _ _ c.args.design.now.read.told r.within 4 _ (omega arith) c.first-first.ensures in
    let u = first_there _ c.args.f.0 c.args.n.0 r.within (λ q. c.if-first-eq0.false (e ∙ q)) in
    let w = subst (Within _ _) (sym e) u.0 in
    let n : c.next-next.result.0 ≡ next c.args.design.now.table.now c.first-first.result.0 =
    told _ _ _ _ c.args.design.now.read.told w 5 _ (omega arith) c.next-next.ensures in
    let o = c.node_walk.ensures in
    record {
      own = o.own;
      walk = kids_one _ _ _ r.within _ _ _ _ _ _ r.beside w e (sym n ∙ c.if-next-eq0.true) o.walk;
      joins = o.joins;
    }

pub kids_walk-returns : goal.kids_walk-returns
kids_walk-returns t c = onto_one _ _ _ _ _ _ _ _ _ c.side_walk-r.ensures.walk

-- a node: a leaf, or one that has more to it
pub node_walk-returns-then-kind-lt3 : goal.node_walk-returns-then-kind-lt3
node_walk-returns-then-kind-lt3 t c =
    let r = c.requires in
    let e : c.kind-kind.result ≡ kind c.args.design.now.table.now c.args.n.0 =
    told _ _ _ _ c.args.design.now.read.told r.within 0 _ (omega arith) c.kind-kind.ensures in
    onto_none _ _ _ _ _ _ _ _ (at_low _ _ _ r.within _ _ _ e c.if-kind-lt3.true c.told-set r.memo)

pub node_walk-returns-then-kind-gt6 : goal.node_walk-returns-then-kind-gt6
node_walk-returns-then-kind-gt6 t c =
    let r = c.requires in
    let e : c.kind-kind.result ≡ kind c.args.design.now.table.now c.args.n.0 =
    told _ _ _ _ c.args.design.now.read.told r.within 0 _ (omega arith) c.kind-kind.ensures in
    onto_none _ _ _ _ _ _ _ _ (at_high _ _ _ r.within _ _ _ e c.if-kind-gt6.true c.told-set r.memo)

-- the children of a node, held against each other
pub side_walk-chain_walk-r-requires : goal.side_walk-chain_walk-r-requires
side_walk-chain_walk-r-requires t c =
    let r = c.requires in
    let e : c.first-first.result.0 ≡ first c.args.design.now.table.now c.args.n.0 =
    told _ _ _ _ c.args.design.now.read.told r.within 4 _ (omega arith) c.first-first.ensures in
    let u = first_there _ c.args.f.0 c.args.n.0 r.within r.beside.1 in (
      omega (arith, c.decreases, e, u.1, u.0.node.1),
      (subst (Within _ _) (sym e) u.0, r.memo),
    )

pub side_walk-returns-then-r-eq0 : goal.side_walk-returns-then-r-eq0
side_walk-returns-then-r-eq0 t c =
    let r = c.requires in
    let e : c.first-first.result.0 ≡ first c.args.design.now.table.now c.args.n.0 =
    told _ _ _ _ c.args.design.now.read.told r.within 4 _ (omega arith) c.first-first.ensures in
    side_idle _ _ _ r.within _ _ _ _ _ _ _ r.beside.0 e c.chain_walk-r.ensures c.if-r-eq0.true c.told-set

pub side_walk-returns : goal.side_walk-returns
side_walk-returns t c =
    let r = c.requires in
    let e : c.first-first.result.0 ≡ first c.args.design.now.table.now c.args.n.0 =
    told _ _ _ _ c.args.design.now.read.told r.within 4 _ (omega arith) c.first-first.ensures in
    side_all _ _ _ r.within _ _ _ _ _ _ _ r.beside.0 e c.chain_walk-r.ensures _ _ c.meet.ensures c.join.ensures
