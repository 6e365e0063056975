-- `kinds::formed` meets its contract: each arm of the match is a case of `fields`, by a law of `KindLaws`.
use borrow.Author.Tests.{eq-eqb, ne_eqb, le-leb, lt-leb}
use native.Mathlib.Omega.{arith}
use mathlib.Core.Path.{sym, ◌∙◌}
use mathlib.Core.Logic.{inl, inr}
use Rattle.table.proofs.KindLaws as laws
use Rattle.table.proofs.kinds.formed.Goals as goal

pub returns-then-extra-eq0 : goal.returns-then-extra-eq0
returns-then-extra-eq0 c = let a = c.args in
    sym (laws.leaf a.kind a.extra a.word a.first.0 c.in-1.is ∙ simp (eq-eqb _ _ c.if-extra-eq0.true))

pub returns-else-extra-eq0 : goal.returns-else-extra-eq0
returns-else-extra-eq0 c = let a = c.args in
    sym (laws.leaf a.kind a.extra a.word a.first.0 c.in-1.is ∙ simp (ne_eqb _ _ c.if-extra-eq0.false))

pub returns-then-word-eq0 : goal.returns-then-word-eq0
returns-then-word-eq0 c = let a = c.args in
    sym (laws.parameter a.kind a.extra a.word a.first.0 c.in-2.is ∙ simp (eq-eqb _ _
    c.if-word-eq0.true))

pub returns-else-word-eq0 : goal.returns-else-word-eq0
returns-else-word-eq0 c = let a = c.args in
    sym (laws.parameter a.kind a.extra a.word a.first.0 c.in-2.is ∙ simp (ne_eqb _ _ c.if-word-eq0.false))

pub returns-in-0-to-10 : goal.returns-in-0-to-10
returns-in-0-to-10 c = let a = c.args in
    sym (laws.primitive a.kind a.extra a.word a.first.0 c.in-3.is ∙ simp (le-leb a.extra 10
    (omega arith)))

pub returns-in_default-extra : goal.returns-in_default-extra
returns-in_default-extra c = let a = c.args in
    sym (laws.primitive a.kind a.extra a.word a.first.0 c.in-3.is ∙ simp (lt-leb a.extra 10
    (omega arith)))

pub returns-in-4 : goal.returns-in-4
returns-in-4 c = let a = c.args in
    sym (laws.call a.kind a.extra a.word a.first.0 c.in-4.is)

pub returns-then-extra-eq0-2 : goal.returns-then-extra-eq0-2
returns-then-extra-eq0-2 c = let a = c.args in
    let r = c.in-5.in_default-own.rest in
    sym (laws.branching a.kind a.extra a.word a.first.0 (laws.past_four a.kind a.extra a.word a.first.0
    (omega arith) r.0.0.0.1 r.0.0.1 r.0.1 r.1) (omega arith) ∙ simp (eq-eqb _ _ c.if-extra-eq0-2.true))

pub returns-else-extra-eq0-2 : goal.returns-else-extra-eq0-2
returns-else-extra-eq0-2 c = let a = c.args in
    let r = c.in-5.in_default-own.rest in
    sym (laws.branching a.kind a.extra a.word a.first.0 (laws.past_four a.kind a.extra a.word a.first.0
    (omega arith) r.0.0.0.1 r.0.0.1 r.0.1 r.1) (omega arith) ∙ simp (ne_eqb _ _ c.if-extra-eq0-2.false))

pub returns-in_default : goal.returns-in_default
returns-in_default c = let a = c.args in
    sym (laws.unknown a.kind a.extra a.word a.first.0 (inl (omega arith)))

pub returns-in_default-2 : goal.returns-in_default-2
returns-in_default-2 c = let a = c.args in
    let r = c.in_default.in_default-own.rest in
    sym (laws.unknown a.kind a.extra a.word a.first.0 (inr (laws.past_seven a.kind a.extra a.word a.first.0
    (omega arith) r.0.0.0.1)))
