-- `moves::ended` meets its contract: a root, then by what its parent has come to.
use Rattle.std.proofs.Common.{◌≡◌, ℕ, ◌+◌, ◌≤◌, false, List, sym, ap, ◌∙◌, subst, arith, eqb-true}
use native.Mathlib.Decide.{ℕ_discrete}
use Rattle.table.specs.Bytes.{nodes, next}
use Rattle.table.specs.Naming.{owner, parent}
use Rattle.table.specs.Working.{IsNode}
use Rattle.table.proofs.Reading.{told}
use Rattle.table.proofs.Family.{parent_node, next_node}
use Rattle.table.specs.Pick.{Range}
use Rattle.table.specs.Expressions.{expr_at}
use Rattle.list.specs.Working.{packed}
use Rattle.rules.specs.Sets.{holds}
use Rattle.circuit.specs.Working.{planned, sort_of}
use Rattle.circuit.specs.Packed.{unpacked, Places}
use Rattle.circuit.specs.Following.{Carries}
use Rattle.circuit.proofs.SortLaws.{is_yes, is_no}
use Rattle.circuit.proofs.TrackLaws.{places_after}
use Rattle.circuit.proofs.ActBy.{own_in}
use Rattle.circuit.proofs.ChainLaws.{ok}
use Rattle.circuit.proofs.FollowLaws.{ended_so, follows_none, grown_so}
use Rattle.circuit.proofs.NextLaws.{held_kept, lifted_first, sibling, beside_so, beside_first}
use Rattle.circuit.proofs.UpdateLaws.{node_bit, ended_by}
use Rattle.circuit.proofs.moves.ended.Goals as goal
use Rattle.circuit.proofs.moves.ended.Lts as lts
use Rattle.circuit.proofs.moves.ended.Reads as reads
use Rattle.circuit.proofs.moves.ended.Tie as tie

abbrev AfterParent : Type 0
AfterParent = lts.After-parent tie.the-claims reads.Pre reads.Post

abbrev AfterOwner : Type 0
AfterOwner = lts.After-owner tie.the-claims reads.Pre reads.Post

abbrev Else1 : Type 0
Else1 = lts.Else1 tie.the-claims reads.Pre reads.Post

abbrev AfterNext : Type 0
AfterNext = lts.After-next tie.the-claims reads.Pre reads.Post

parents : (c : AfterParent) → c.parent-p.result.0 ≡ parent c.args.design.now.table.now c.args.n.0
parents c = told _ _ c.args.design.now.read _ c.requires.0 7 _ (omega arith) c.parent-p.ensures

owners : (c : AfterOwner) → c.owner.result.0 ≡ owner c.args.design.now.table.now c.args.n.0
owners c = told _ _ c.args.design.now.read _ c.requires.0 6 _ (omega arith) c.owner.ensures

-- past the move of n: the sets before it, and without n
abbrev AfterPlace : Type 0
AfterPlace = lts.After-place tie.the-claims reads.Pre reads.Post

taken_out : (c : AfterPlace) → Places c.args.n.0 false false false (unpacked c.args.sets.now) (unpacked c.place.new.self)
taken_out c = places_after _ _ _ _ _ _ _ c.free-freed.ensures.1 c.place.ensures.0

held_now : (c : AfterPlace) → (v : List ℕ) (m : ℕ) → Range (nodes c.args.design.now.table.now) m
    → packed c.place.new.self.held m
    ≡ holds (expr_at c.args.design.now.table.now) (unpacked c.args.sets.now)
    (planned c.args.design.now.table.now v c.args.n.0 c.args.plan) m
held_now c v m r = ap (λ l. packed l m) c.place.ensures.1 ∙ c.free-freed.ensures.2 v m c.requires.4 r

pub free-freed-requires : goal.free-freed-requires
free-freed-requires c = (c.args.design.now.read.taken, c.requires.1, c.requires.2)

pub place-requires : goal.place-requires
place-requires c = node_bit _ c.args.design.now.read.taken _ c.requires.0

pub arm_callers-requires : goal.arm_callers-requires
arm_callers-requires c = let fair = c.args.design.now.read.taken in
    omega (arith, owners (search), (own_in _ fair _ c.requires.0).1, (ok _ fair).f_high)

pub returns-then-p-eq0 : goal.returns-then-p-eq0
returns-then-p-eq0 c = let fair = c.args.design.now.read.taken in
    let z = c.arm_callers.ensures in
    λ d e s₀ sized q eq tr. (
      follows_none _ fair _ c.requires.0 c.args.plan s₀ sized q _ eq _ _ tr _
          (ended_so _ fair _ _ _ _ (parents (search)) c.args.plan c.requires.4
          (ended_by _ fair _ c.requires.2 _ c.requires.0 (sym (parents (search)) ∙ c.if-p-eq0.true) _ (owners (search))
          (own_in _ fair _ c.requires.0) _ _ _ (taken_out (search)) z.0.bits
          (λ m. (ap (λ l. packed l m) z.1, ap (λ l. packed l m) z.2)))
          (λ v m r. ap (λ l. packed l m) z.3 ∙ held_now (search) v m r))
          c.if-p-eq0.true,
      tt,
    )

up : (c : Else1) → parent c.args.design.now.table.now c.args.n.0 ≡ 0 → ⊥
up c z = c.if-p-eq0.false (parents (search) ∙ z)

above : (c : Else1) → IsNode c.args.design.now.table.now c.parent-p.result.0
above c =
    subst (IsNode _) (sym (parents (search))) (parent_node _ (ok _ c.args.design.now.read.taken).linking _ c.requires.0 (up c))

nexts : (c : AfterNext) → c.next-d.result.0 ≡ next c.args.design.now.table.now c.args.n.0
nexts c = told _ _ c.args.design.now.read _ c.requires.0 5 _ (omega arith) c.next-d.ensures

next_high : (c : AfterNext) → c.next-d.result.0 ≤ nodes c.args.design.now.table.now
next_high c = go (ℕ_discrete c.next-d.result.0 0)
  where
    go : Dec (c.next-d.result.0 ≡ 0) → c.next-d.result.0 ≤ nodes c.args.design.now.table.now
    go (yes z) = omega (arith, z)
    go (no z) =
        let i = next_node _ (ok _ c.args.design.now.read.taken).linking _ c.requires.0 (λ y. z (nexts c ∙ y)) in
        omega (arith, i.1, nexts c)

sibling_in : (c : AfterNext) → c.next-d.result.0 ≡ c.args.n.0 + 1
    → IsNode c.args.design.now.table.now c.next-d.result.0
sibling_in c e = (omega (arith, e), next_high c)

pub lift-k-requires : goal.lift-k-requires
lift-k-requires c = (
  above (search),
  sibling c.args.design.now.table.now c.args.design.now.read.taken c.args.n.0 c.requires.0 (up
      (search)) _ (parents (search)) _ (nexts (search)),
)

-- past that of its parent
abbrev AfterLift : Type 0
AfterLift = lts.After-lift tie.the-claims reads.Pre reads.Post

grown : (c : AfterLift) → let a = c.args in
    Carries a.design.now.table.now a.n.0 a.plan a.status.now a.second.now a.value.now (unpacked a.sets.now) (unpacked c.lift-k.new.sets)
grown c d e s₀ sized q eq tr =
    let w = c.lift-k.ensures in
    grown_so _ c.args.design.now.read.taken _ c.requires.0 (up (search)) c.args.plan c.requires.4 s₀ sized q _ eq _ _ _ tr (taken_out
    (search)) _
    (parents (search)) (held_now (search)) _ (w.0 d e) w.1 (ap packed w.2)

-- where no callee is left, the same calls are held
kept : (c : AfterLift) → c.free-freed.result ≡ false → (m : ℕ) → Range (nodes c.args.design.now.table.now) m
    → packed c.lift-k.new.sets.held m ≡ packed c.args.sets.now.held m
kept c f m r =
    ap (λ l. packed l m) c.lift-k.ensures.2 ∙ held_now (search) c.args.value.now m r
    ∙ held_kept _ _ (unpacked c.args.sets.now) _ m c.args.plan c.requires.4 (sym c.free-freed.ensures.0 ∙ f)

pub returns-then-freed : goal.returns-then-freed
returns-then-freed c = λ d e s₀ sized q eq tr. (grown (search) d e s₀ sized q eq tr, tt)

pub returns-then-eq : goal.returns-then-eq
returns-then-eq c = λ d e s₀ sized q eq tr. (
  grown (search) d e s₀ sized q eq tr,
  (
    lifted_first _ c.args.design.now.read.taken _ c.requires.0 (up (search)) _ (parents (search)) _ _ _ c.requires.3 (taken_out
        (search)) _ _
        c.lift-k.ensures.1 (eqb-true _ 2 (sym (is_yes _) ∙ sym c.eq.ensures ∙ c.if-eq.true)) (kept (search) c.if-freed.false),
    (above (search)).0,
  ),
)

pub is_beside-requires : goal.is_beside-requires
is_beside-requires c = let high = (ok _ c.args.design.now.read.taken).n_high in
    (omega (arith, c.requires.0.1, high), omega (arith, next_high (search), high))

pub returns-then-is_beside : goal.returns-then-is_beside
returns-then-is_beside c = let o = beside_so _ _ _ _ c.is_beside.ensures c.if-is_beside.true in
    let none : sort_of c.lift-k.result ≡ 0 = eqb-true _ 0 (sym (is_no _) ∙ sym c.eq-2.ensures ∙ c.if-eq-2.true) in
    λ d e s₀ sized q eq tr. let now = grown (search) d e s₀ sized q eq tr in (
      now,
      (
        beside_first _ c.args.design.now.read.taken _ c.requires.0 (up (search)) _ (parents (search)) _ _ _ c.requires.3 (taken_out
            (search)) _ _
            c.lift-k.ensures.1 (kept (search) c.if-freed.false) _ now (sym none ∙ c.lift-k.ensures.0 d e) _ (sibling_in (search) o.0) o.0
            o.1,
        (sibling_in (search) o.0).0,
      ),
    )

pub returns-else-is_beside : goal.returns-else-is_beside
returns-else-is_beside c = λ d e s₀ sized q eq tr. (grown (search) d e s₀ sized q eq tr, tt)

pub returns-else-eq-2 : goal.returns-else-eq-2
returns-else-eq-2 c = λ d e s₀ sized q eq tr. (grown (search) d e s₀ sized q eq tr, tt)
