-- `faults::fault_at` meets its contract: each test says what its part of `fault_at` asks, and the first that fails is told.
use mathlib.Core.Path.{◌≡◌, sym, ◌∙◌}
use mathlib.Core.Bool.{Bool, true, not, ◌||◌, ◌&&◌}
use mathlib.Core.List.{List}
use Prim.Native.Nat.{ℕ, ◌^◌}
use lib.Dec.{eqb, ltb}
use native.Mathlib.Omega.{arith}
use Rattle.table.specs.Bytes.{bits, first}
use Rattle.table.specs.Decoded.{cell_at, function_slot}
use Rattle.table.specs.Check.{among, fields, formed, callee_fits, counted, scoped, tailed, const_fits}
use Rattle.table.specs.Working.{fault_at, IsFunction, NodeAt}
use Rattle.table.proofs.CellLaws.{word_read, width_read}
use Rattle.table.proofs.CountLaws.{told_formed, told_callee, told_tailed, told_const, callee_in}
use Rattle.table.proofs.KindLaws.{operation_known}
use Rattle.table.proofs.Family.{owner_in}
use Rattle.table.proofs.faults.fault_at.Goals as goal
use Rattle.table.proofs.faults.fault_at.Lts as lts
use Rattle.table.proofs.faults.fault_at.Reads as reads
use Rattle.table.proofs.faults.fault_at.Tie as tie

abbrev Start : Type 0
Start = lts.Start tie.the-claims reads.Pre reads.Post tie.handed_clauses

abbrev AfterFirst : Type 0
AfterFirst = lts.After-first tie.the-claims reads.Pre reads.Post tie.handed_clauses

abbrev Else1 : Type 0
Else1 = lts.Else1 tie.the-claims reads.Pre reads.Post tie.handed_clauses

abbrev Else2 : Type 0
Else2 = lts.Else2 tie.the-claims reads.Pre reads.Post tie.handed_clauses

abbrev Else3 : Type 0
Else3 = lts.Else3 tie.the-claims reads.Pre reads.Post tie.handed_clauses

abbrev Else4 : Type 0
Else4 = lts.Else4 tie.the-claims reads.Pre reads.Post tie.handed_clauses

abbrev Else5 : Type 0
Else5 = lts.Else5 tie.the-claims reads.Pre reads.Post tie.handed_clauses

abbrev AfterConstFits : Type 0
AfterConstFits = lts.After-const_fits tie.the-claims reads.Pre reads.Post tie.handed_clauses

-- what a test says of the node
abbrev Says : (List ℕ → ℕ → Bool) → Start → Bool → Type 0
Says test s b = test s.args.table.now s.args.n.0 ≡ b

-- what was read of the node, and what the tests on it say
module _ (c : AfterFirst) where
  abbrev k : ℕ
  k = c.kind-kind.result

  abbrev w : ℕ
  w = c.word-word.result

  abbrev own : ℕ
  own = c.args.own.0

  node_at : NodeAt c.args.table.now c.args.cells.now c.args.n.0 k c.extra-extra.result w
  node_at =
      let p = c.requires.within in
      record {
        place = p;
        kinded = c.kind-kind.ensures ∙ p.read.node _ 0 p.node (omega arith);
        extras = c.extra-extra.ensures ∙ p.read.node _ 1 p.node (omega arith);
        worded = c.word-word.ensures ∙ word_read _ _ 8 (omega arith) p.read _ p.node;
      }

  firsts : c.first-first.result.0 ≡ first c.args.table.now c.args.n.0
  firsts = c.first-first.ensures ∙ c.requires.within.read.node _ 4 c.requires.within.node (omega arith)

  formed_by : (b : Bool) → b ≡ fields k c.extra-extra.result w c.first-first.result.0 → Says formed (search) b
  formed_by b e = sym (e ∙ told_formed _ _ _ _ _ _ _ node_at.kinded node_at.extras node_at.worded firsts
      c.requires.own_value.0)

  callee_by : (b : Bool) → b ≡ (not (eqb k 4) || among 1 own w) → Says callee_fits (search) b
  callee_by b e = sym (e ∙ told_callee _ _ _ _ _ _ _ node_at.kinded node_at.extras node_at.worded firsts
      c.requires.own_value.0)

  tailed_by : (b : Bool) → b ≡ (not (eqb k 4 && eqb w own) || c.args.tail) → Says tailed (search) b
  tailed_by b e = sym (e ∙ told_tailed _ _ _ _ _ _ _ node_at.kinded node_at.extras node_at.worded firsts
      c.requires.own_value.0 _ c.requires.own_value.1)

  const_by : (b : Bool) (x : ℕ) → x ≡ bits (cell_at c.args.cells.now (function_slot own) 1) → b ≡ (not (eqb k 1) || ltb w (2 ^ x))
      → Says const_fits (search) b
  const_by b x ex e =
      let p = c.requires.within in
      let i = owner_in _ p.links _ p.node in
      let o = c.requires.own_value.0 in
      let f : IsFunction c.args.table.now own = (omega (arith, o, i.0), omega (arith, o, i.1)) in
      sym (e ∙ told_const _ _ _ _ _ _ _ node_at.kinded node_at.extras node_at.worded firsts o _
      (ex ∙ width_read _ _ _ p.read _ f))

well_formed : (c : Else1) → fields (k (search)) c.extra-extra.result (w (search)) c.first-first.result.0 ≡ true
well_formed c =
    sym c.formed.ensures ∙ c.if-not-formed.false

formed_passed : (c : Else1) → Says formed (search) true
formed_passed c = formed_by (search) true (sym (well_formed c))

callee_passed : (c : Else2) → Says callee_fits (search) true
callee_passed c =
    callee_by (search) _ c.callee_fits.ensures ∙ c.if-not-callee_fits.false

count_passed : (c : Else3) → Says counted (search) true
count_passed c =
    sym c.count_fits.ensures ∙ c.if-not-count_fits.false

scope_passed : (c : Else4) → Says scoped (search) true
scope_passed c =
    sym c.scope_fits.ensures ∙ c.if-not-scope_fits.false

pub returns-then-not-formed-clause-first : goal.returns-then-not-formed-clause-first
unfolding fault_at
returns-then-not-formed-clause-first c = simp (formed_by (search) _ c.formed.ensures ∙ c.if-not-formed.true)

pub returns-then-not-callee_fits-clause-first : goal.returns-then-not-callee_fits-clause-first
unfolding fault_at
returns-then-not-callee_fits-clause-first c = simp (
  formed_passed (search),
  callee_by (search) _ c.callee_fits.ensures ∙ c.if-not-callee_fits.true,
)

pub count_fits-requires : goal.count_fits-requires
count_fits-requires c = let p = c.requires in
    let at = node_at (search) in (
      at,
      callee_in _ _ _ _ _ _ _ at.kinded at.extras at.worded (firsts (search)) p.own_value.0 p.within.links
          p.within.node (callee_passed (search)),
      λ z. omega (arith, operation_known _ _ _ _ (well_formed (search)) z),
    )

pub returns-then-not-count_fits-clause-first : goal.returns-then-not-count_fits-clause-first
unfolding fault_at
returns-then-not-count_fits-clause-first c = simp (
  formed_passed (search),
  callee_passed (search),
  sym c.count_fits.ensures ∙ c.if-not-count_fits.true,
)

pub scope_fits-requires : goal.scope_fits-requires
scope_fits-requires c = (node_at (search), c.requires.own_value.0)

pub returns-then-not-scope_fits-clause-first : goal.returns-then-not-scope_fits-clause-first
unfolding fault_at
returns-then-not-scope_fits-clause-first c = simp (
  formed_passed (search),
  callee_passed (search),
  count_passed (search),
  sym c.scope_fits.ensures ∙ c.if-not-scope_fits.true,
)

tail_passed : (c : Else5) → Says tailed (search) true
tail_passed c =
    tailed_by (search) _ c.tail_fits.ensures ∙ c.if-not-tail_fits.false

const_told : (c : AfterConstFits) → Says const_fits (search) c.const_fits.result
const_told c =
    const_by (search) _ _ c.width.ensures c.const_fits.ensures

pub returns-then-not-tail_fits-clause-first : goal.returns-then-not-tail_fits-clause-first
unfolding fault_at
returns-then-not-tail_fits-clause-first c = simp (
  formed_passed (search),
  callee_passed (search),
  count_passed (search),
  scope_passed (search),
  tailed_by (search) _ c.tail_fits.ensures ∙ c.if-not-tail_fits.true,
)

pub returns-then-not-const_fits-clause-first : goal.returns-then-not-const_fits-clause-first
unfolding fault_at
returns-then-not-const_fits-clause-first c = simp (
  formed_passed (search),
  callee_passed (search),
  count_passed (search),
  scope_passed (search),
  tail_passed (search),
  const_told (search) ∙ c.if-not-const_fits.true,
)

pub returns-clause-first : goal.returns-clause-first
unfolding fault_at
returns-clause-first c = simp (
  formed_passed (search),
  callee_passed (search),
  count_passed (search),
  scope_passed (search),
  tail_passed (search),
  const_told (search) ∙ c.if-not-const_fits.false,
)
