-- `check_coverage` meets its contract: the table first, then its tags by its cells, and its list by one walk.
use Rattle.std.proofs.Common.{◌≡◌, refl, sym, ap, ◌∙◌}
use Rattle.std.proofs.lemmas.Result.{err_from_is_err_and}
use Rattle.table.specs.Check.{accepted}
use Rattle.table.specs.Working.{Read}
use Rattle.table.proofs.SurveyLaws.{survey_taken}
use Rattle.list.specs.Tags.{found, check_with}
use Rattle.list.proofs.TagVerdicts.{at_check, after_check, held_read}
use Rattle.list.proofs.HoldingLaws.{tags_short, missing_found, missing_told}
use Rattle.list.proofs.check_coverage.Goals as goal
use Rattle.list.proofs.check_coverage.Goals.{In_ok-survey, In_ok-design}

read : (c : In_ok-survey) → Read c.args.table.now c.survey.new.cells
read c = (survey_taken _ _ _ _ _ refl c.survey.ensures.0 c.survey.ensures.1 c.in_ok-survey.was).0

taken : (c : In_ok-design)
    → accepted c.in_ok-design.design.main.0 c.in_ok-design.design.last.0 ≡ check_with c.args.table.now c.args.tags.now
taken c =
    let k = (survey_taken _ _ _ _ _ refl c.survey.ensures.0 c.survey.ensures.1 c.in_ok-survey.was).0 in
    after_check _ _ _ k.taken (c.in_ok-design.ensures ∙ held_read _ _ _ k)

pub returns-in_err-survey : goal.returns-in_err-survey
returns-in_err-survey c = let p = err_from_is_err_and c.from_residual.result c.from_residual.ensures.1 in
    rw (p.1, p.2) (record { told = at_check _ _ _ _ c.in_err-survey.ensures.0; missing = tt })

pub returns-in_err-design : goal.returns-in_err-design
returns-in_err-design c =
    let p = err_from_is_err_and c.from_residual-in_err-design.result c.from_residual-in_err-design.ensures.1 in
    let k = read (goal.at.returns-in_err-design c).In_ok-survey in
    rw (p.1, p.2) (record { told = after_check _ _ _ k.taken (c.in_err-design.ensures ∙ held_read _ _ _ k); missing = tt })

pub invariant_of-read : goal.invariant_of-read
invariant_of-read c = record { read = read (goal.at.invariant_of-read c).In_ok-survey }

pub lowest_missing-missing-requires : goal.lowest_missing-missing-requires
lowest_missing-missing-requires c =
    tags_short _ (read (goal.at.lowest_missing-missing-requires c).In_ok-survey).taken _ _ _
    (sym (taken (goal.at.lowest_missing-missing-requires c).In_ok-design))

pub returns : goal.returns
returns c = let e = taken (goal.at.returns c).In_ok-design in
    record {
      told = e;
      missing = c.lowest_missing-missing.ensures
          ∙ ap found (missing_found _ (read (goal.at.returns c).In_ok-survey).taken _ _ _ (sym e) _ c.arbiters-set.ensures.2
          ∙ missing_told _ _ _ _ (sym e));
    }
