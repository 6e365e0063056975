-- `sorts::sort_at` meets its contract, by status and kind.
use Rattle.std.proofs.Common.{◌≡◌, sym, ◌∙◌, arith}
use Rattle.table.specs.Bytes.{kind}
use Rattle.table.proofs.Reading.{told}
use Rattle.rules.specs.State.{entry}
use Rattle.circuit.proofs.ChainLaws.{ok}
use Rattle.circuit.proofs.SortLaws.{sort_open, sort_rest, sort_leaf, sort_prim, gathered_prim}
use Rattle.circuit.proofs.sorts.sort_at.Goals as goal
use Rattle.circuit.proofs.sorts.sort_at.Lts as lts
use Rattle.circuit.proofs.sorts.sort_at.Reads as reads
use Rattle.circuit.proofs.sorts.sort_at.Tie as tie

abbrev AfterKind : Type 0
AfterKind = lts.After-kind tie.the-claims reads.Pre reads.Post

read : (c : AfterKind) → c.kind-kind.result ≡ kind c.args.design.now.table.now c.args.n.0
read c = told _ _ c.args.design.now.read _ c.requires 0 _ (omega arith) c.kind-kind.ensures

busy : (c : AfterKind) → entry c.args.status.now 0 c.args.n.0 ≡ 2
busy c =
    sym c.status_at-at.ensures ∙ c.if-at-ne2.false

pub status_at-at-requires : goal.status_at-at-requires
status_at-at-requires c = omega (arith, c.requires.1, (ok _ c.args.design.now.read.taken).n_high)

pub returns-then-at-eq1 : goal.returns-then-at-eq1
returns-then-at-eq1 c = λ d e. sort_open _ c.args.design.now.read.taken _ c.requires _ _ _ d e (sym c.status_at-at.ensures
    ∙ c.if-at-eq1.true)

pub returns-then-at-ne2 : goal.returns-then-at-ne2
returns-then-at-ne2 c = λ d e. sort_rest _ c.args.design.now.read.taken _ c.requires _ _ _ d e (λ z. c.if-at-eq1.false
    (c.status_at-at.ensures ∙ z))
    (λ z. c.if-at-ne2.true (c.status_at-at.ensures ∙ z))

pub of_call-requires : goal.of_call-requires
of_call-requires c = let p = c.requires in
    (p, busy (search), sym (read (search)) ∙ c.in-4.is)

pub of_if-requires : goal.of_if-requires
of_if-requires c = let p = c.requires in
    (p, busy (search), sym (read (search)) ∙ c.in-5.is)

pub of_let-requires : goal.of_let-requires
of_let-requires c = let p = c.requires in
    (p, busy (search), sym (read (search)) ∙ c.in-6.is)

pub returns-in-3 : goal.returns-in-3
returns-in-3 c = let p = c.requires in
    λ d e. sort_prim _ c.args.design.now.read.taken _ p _ _ _ d e (busy (search)) _ (sym (read (search)) ∙ c.in-3.is)
    (gathered_prim _ _ _ _ _ c.once_all_done.ensures)

pub returns-in-4 : goal.returns-in-4
returns-in-4 c = λ d e. c.of_call.ensures _ d e

pub returns-in-6 : goal.returns-in-6
returns-in-6 c = λ d e. c.of_let.ensures _ d e

pub returns-in_default : goal.returns-in_default
returns-in_default c = let p = c.requires in
    let other = c.in_default.in_default-own.rest in
    λ d e. sort_leaf _ c.args.design.now.read.taken _ p _ _ _ d e (busy (search)) (λ z. other.0.0.0.1 (read (search) ∙ z))
    (λ z. other.0.0.1 (read (search) ∙ z))
    (λ z. other.0.1 (read (search) ∙ z)) (λ z. other.1 (read (search) ∙ z))
