-- `plan::of_let` meets its contract: a let in its second phase is done, in its first it opens the body.
use Rattle.std.proofs.Common.{◌≡◌, sym, refl, ap, ◌∙◌, arith}
use Rattle.table.specs.Bytes.{first}
use Rattle.table.proofs.Reading.{told}
use Rattle.rules.specs.State.{entry}
use Rattle.circuit.proofs.ChainLaws.{ok, first_in_lem}
use Rattle.circuit.proofs.PlanLaws.{acts_bind, pass_yes, body_is, bind_pass, bind_turn}
use Rattle.circuit.proofs.MoveLaws.{defs_done, bind_pass_done, bind_turn_done}
use Rattle.circuit.proofs.plan.of_let.Goals as goal
use Rattle.circuit.proofs.plan.of_let.Lts as lts
use Rattle.circuit.proofs.plan.of_let.Reads as reads
use Rattle.circuit.proofs.plan.of_let.Tie as tie

abbrev AfterFirst : Type 0
AfterFirst = lts.After-first tie.the-claims reads.Pre reads.Post

-- what was read is the node's first child
read : (c : AfterFirst) → c.first-c.result.0 ≡ first c.args.design.now.table.now c.args.n.0
read c = told _ _ c.args.design.now.read _ c.requires.0 4 _ (omega arith) c.first-c.ensures

pub last_of-body-requires : goal.last_of-body-requires
last_of-body-requires c = first_in_lem _ c.args.design.now.read.taken _ c.requires.0 _ (read (search))

pub second_at-requires : goal.second_at-requires
second_at-requires c = omega (arith, c.requires.0.1, (ok _ c.args.design.now.read.taken).n_high)

pub value_at-requires : goal.value_at-requires
value_at-requires c = omega (arith, c.last_of-body.ensures.1, (ok _ c.args.design.now.read.taken).n_high)

pub returns-then-second_at : goal.returns-then-second_at
returns-then-second_at c = let p = c.requires in
    λ a d e busy h. acts_bind _ c.args.design.now.read.taken _ p.0 a _ _ d e _ busy p.1
    (bind_pass _ a _ _ _ _ (read (search)) _ c.last_of-body.ensures.0 _
    c.second_at.ensures _ c.if-second_at.true (pass_yes a _ _ _ refl _ c.value_at.ensures
    (ap (entry a 0) (body_is _ a _ c.args.value.now _ _ (read (search)) _ c.last_of-body.ensures.0 _ c.second_at.ensures)
    ∙ bind_pass_done _ c.args.design.now.read.taken _ p.0 a _ _ d e h busy p.1 (sym c.second_at.ensures ∙ c.if-second_at.true))))

pub returns : goal.returns
returns c = let p = c.requires in
    λ a d e busy h. acts_bind _ c.args.design.now.read.taken _ p.0 a _ _ d e _ busy p.1
    (bind_turn _ a _ _ _ _ (read (search)) _ c.last_of-body.ensures.0 _
    c.second_at.ensures c.if-second_at.false _ refl (defs_done _ a _ _ (read (search))
    (bind_turn_done _ c.args.design.now.read.taken _ p.0 a _ _ d e h busy p.1 (sym c.second_at.ensures ∙ c.if-second_at.false))))
