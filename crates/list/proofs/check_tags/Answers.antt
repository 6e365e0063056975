-- `check_tags` meets its contract: the table first, then the tags by its cells.
use Rattle.std.proofs.Common.{refl, ◌∙◌}
use Rattle.std.proofs.lemmas.Result.{err_from_is_err_and}
use Rattle.table.proofs.SurveyLaws.{survey_taken}
use Rattle.list.proofs.TagVerdicts.{at_check, after_check, held_read}
use Rattle.list.proofs.check_tags.Goals as goal

pub returns-in_err-survey : goal.returns-in_err-survey
returns-in_err-survey c = let p = err_from_is_err_and c.from_residual.result c.from_residual.ensures.1 in
    rw (p.1, p.2) (at_check _ _ _ _ c.in_err-survey.ensures.0)

pub returns : goal.returns
returns c = let k = (survey_taken _ _ _ _ _ refl c.survey.ensures.0 c.survey.ensures.1 c.in_ok-survey.was).0 in
    after_check _ _ _ k.taken (c.check_held.ensures ∙ held_read _ _ _ k)
