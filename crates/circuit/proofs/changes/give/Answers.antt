use Rattle.std.proofs.Common.{◌≤◌, refl, ap, ◌∙◌, inl, inr, arith}
use Rattle.table.proofs.Reading.{told}
use Rattle.rules.specs.Arithmetic.{arithmetic}
use Rattle.circuit.proofs.ChainLaws.{ok}
use Rattle.circuit.proofs.GiveLaws.{given_start, given_next, given_end}
use Rattle.circuit.proofs.changes.give.Goals as goal
use Rattle.circuit.proofs.changes.give.Lts as lts
use Rattle.circuit.proofs.changes.give.Reads as reads
use Rattle.circuit.proofs.changes.give.Tie as tie

abbrev Start : Type 0
Start = lts.Start tie.the-claims reads.Pre reads.Post goal.the-invariant-loop-i goal.the-decreases-loop-i

few : (s : Start) → s.args.g.0 ≤ 32
few s = omega (arith, s.requires.0.1, (ok _ s.args.design.now.read.taken).f_high)

pub blank-requires : goal.blank-requires
blank-requires c = (c.requires.0.0, few (search))

pub loop-i-init : goal.loop-i-init
loop-i-init c = given_start _ _ c.args.design.now.read.taken _ _ c.requires.1 _ _

-- where the chain ends, the rest is zero
pub returns-then-at-eq0 : goal.returns-then-at-eq0
returns-then-at-eq0 c = given_end _ _ c.args.design.now.read.taken _ _ c.requires.1 _ _ _ _ _ _ c.blank.ensures c.loop-i.invariant
    (inl c.if-at-eq0.true)

pub value_at-requires : goal.value_at-requires
value_at-requires c = omega (arith, c.loop-i.invariant.inside, (ok _ c.args.design.now.read.taken).n_high)

pub keep-requires : goal.keep-requires
keep-requires c = c.requires.0

pub bounds-registers-base : goal.bounds-registers-base
bounds-registers-base c = omega (arith, few (search))

pub loop-i-preserved : goal.loop-i-preserved
loop-i-preserved c = let p = c.requires in
    let e = told _ _ c.args.design.now.read _ (omega (arith, c.if-at-eq0.false), c.loop-i.invariant.inside) 5 _
    (omega arith) c.next-at.ensures in
    given_next _ _ c.args.design.now.read.taken _ _ p.1 _ _ _ _ _ c.loop-i.invariant c.loop-i-test.true p.0.0 _ _ _ refl c.if-at-eq0.false
    (c.keep.ensures ∙ ap ((arithmetic c.args.design.now.table.now).keep c.args.g.0) c.value_at.ensures) e

pub returns : goal.returns
returns c = given_end _ _ c.args.design.now.read.taken _ _ c.requires.1 _ _ _ _ _ _ c.blank.ensures c.loop-i.invariant (inr (omega arith))
