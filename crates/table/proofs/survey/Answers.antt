-- `survey` meets its contract, by the check's answer.
use Rattle.std.proofs.lemmas.Result.{err_from_is_err_and}
use Rattle.table.proofs.SurveyLaws.{taken_by, taken_framed, surveyed_in, surveyed_out}
use Rattle.table.proofs.survey.Goals as goal

pub fill-requires : goal.fill-requires
fill-requires c = let t = (taken_by _ _ _ c.in_ok-design.ensures.told).0 in
    (taken_framed _ t, c.in_ok-design.ensures.kindred t)

pub returns : goal.returns
returns c = let e = c.in_ok-design.ensures.told in
    (e, surveyed_in _ _ _ (taken_by _ _ _ e).0 c.fill.ensures)

pub returns-in_err-design : goal.returns-in_err-design
returns-in_err-design c = let e = c.in_err-design.ensures.told in
    let p = err_from_is_err_and c.from_residual.result c.from_residual.ensures.1 in
    rw (p.1, p.2) (e, surveyed_out _ _ _ _ e)
