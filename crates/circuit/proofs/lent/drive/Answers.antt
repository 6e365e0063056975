-- `lent::drive` meets its contract: what is checked before the first step, then the steps.
use Rattle.std.proofs.Common.{sym, refl}
use Rattle.std.proofs.lemmas.Result.{err_from_is_err_and}
use Rattle.rules.specs.State.{State512}
use Rattle.circuit.specs.Meaning.{state_as}
use Rattle.circuit.proofs.EntryLaws.{admitted_from}
use Rattle.circuit.proofs.LentLaws.{driven_kept, driven_counted}
use Rattle.circuit.proofs.lent.drive.Goals as goal
use Rattle.circuit.proofs.lent.drive.Lts as lts
use Rattle.circuit.proofs.lent.drive.Reads as reads
use Rattle.circuit.proofs.lent.drive.Tie as tie

abbrev Start : Type 0
Start = lts.Start tie.the-claims reads.Pre reads.Post tie.handed_clauses

abbrev state : Start → State512
state s = state_as s.args.status.now s.args.second.now s.args.value.now s.args.registers.now s.args.occupant.now

pub returns-in_err-admit : goal.returns-in_err-admit
returns-in_err-admit c = let p = err_from_is_err_and c.from_residual.result c.from_residual.ensures.1 in
    rw (p.1, p.2) (driven_kept _ _ (state (search)) c.args.budget _ _ _ _ (sym (c.in_err-admit.ensures.told _ _ _)) refl)

pub invariant_of-design : goal.invariant_of-design
invariant_of-design c = record { read = c.in_ok-admit.ensures.read _ _ refl }

pub drive-requires : goal.drive-requires
drive-requires c = let f = c.in_ok-admit.ensures in
    let a = admitted_from _ _ (state (search)) _ _ (sym (f.told _ _ _)) in
    (a.0, a.1)

pub returns : goal.returns
returns c = driven_counted _ _ (state (search)) _ _ _ _ c.drive.result _ _ (sym (c.in_ok-admit.ensures.told _ _ _)) c.drive.ensures
