-- `sorts::gathers` meets its contract, by status, phase and kind.
use Rattle.std.proofs.Common.{◌≡◌, false, ◌||◌, eqb, sym, ap, ◌∙◌, arith, eq-eqb, ne_eqb}
use Rattle.table.specs.Bytes.{kind}
use Rattle.table.proofs.Reading.{told}
use Rattle.rules.specs.State.{entry}
use Rattle.circuit.proofs.ChainLaws.{ok}
use Rattle.circuit.proofs.WaitLaws.{gathers_idle, gathers_late, gathers_kind}
use Rattle.circuit.proofs.sorts.gathers.Goals as goal
use Rattle.circuit.proofs.sorts.gathers.Lts as lts
use Rattle.circuit.proofs.sorts.gathers.Reads as reads
use Rattle.circuit.proofs.sorts.gathers.Tie as tie

abbrev AfterKind : Type 0
AfterKind = lts.After-kind tie.the-claims reads.Pre reads.Post

read : (c : AfterKind) → c.kind-kind.result ≡ kind c.args.design.now.table.now c.args.n.0
read c = told _ _ c.args.design.now.read _ c.requires 0 _ (omega arith) c.kind-kind.ensures

pub status_at-requires : goal.status_at-requires
status_at-requires c = omega (arith, c.requires.1, (ok _ c.args.design.now.read.taken).n_high)

pub returns-then-status_at-ne2 : goal.returns-then-status_at-ne2
returns-then-status_at-ne2 c = gathers_idle _ _ _ _ (λ e. c.if-status_at-ne2.true (c.status_at.ensures ∙ e))

pub second_at-requires : goal.second_at-requires
second_at-requires c = omega (arith, c.requires.1, (ok _ c.args.design.now.read.taken).n_high)

pub returns-then-second_at : goal.returns-then-second_at
returns-then-second_at c = gathers_late _ _ _ _ (sym c.second_at.ensures ∙ c.if-second_at.true)

-- a busy node in first phase
busy : (c : AfterKind) → entry c.args.status.now 0 c.args.n.0 ≡ 2
busy c =
    sym c.status_at.ensures ∙ c.if-status_at-ne2.false

phase : (c : AfterKind) → entry c.args.second.now false c.args.n.0 ≡ false
phase c =
    sym c.second_at.ensures ∙ c.if-second_at.false

pub returns-then-kind-eq3 : goal.returns-then-kind-eq3
returns-then-kind-eq3 c = gathers_kind _ _ _ _ (busy (search)) (phase (search)) _ (read (search)) _
    (ap (λ b. b || eqb c.kind-kind.result 4) (sym (eq-eqb _ 3 c.if-kind-eq3.true)))

pub returns : goal.returns
returns c = gathers_kind _ _ _ _ (busy (search)) (phase (search)) _ (read (search)) _
    (ap (λ b. b || eqb c.kind-kind.result 4) (sym (ne_eqb _ 3 c.if-kind-eq3.false)))
