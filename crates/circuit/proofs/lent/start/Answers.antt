-- `lent::start` meets its contract: the table and its tags, with what they lack, then the rest.
use Rattle.std.proofs.Common.{sym, refl, ap, ◌∙◌, subst}
use Rattle.std.proofs.lemmas.Result.{err_from_is_err_and}
use Rattle.list.specs.Tags.{found}
use Rattle.list.proofs.HoldingLaws.{missing_told}
use Rattle.circuit.specs.Meaning.{OpenedAs}
use Rattle.circuit.proofs.EntryLaws.{agreed_from}
use Rattle.rules.proofs.Starts.{start_first}
use Rattle.circuit.proofs.lent.start.Goals as goal

pub returns-in_err-told : goal.returns-in_err-told
returns-in_err-told c = let p = err_from_is_err_and c.from_residual.result c.from_residual.ensures.1 in
    rw (p.1, p.2) (subst (OpenedAs _ _ _) (sym (start_first _ _ _ _ _ (sym c.in_err-told.ensures.told)))
    (record { answer = refl; state = refl }))

pub start-requires : goal.start-requires
start-requires c = (agreed_from _ _ _ _ (sym c.in_ok-told.ensures.told)).fair

pub returns : goal.returns
returns c = let e = c.in_ok-told.ensures in
    let a = agreed_from _ _ _ _ (sym e.told) in
    c.start.ensures _ a.tagging (e.missing ∙ ap found (sym (missing_told _ _ _ _ a.tagging)))
