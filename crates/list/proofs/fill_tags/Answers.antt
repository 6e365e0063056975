-- `fill_tags` meets its contract, by the check's answer and the lent list's length.
use Rattle.std.proofs.Common.{◌≡◌, ◌≤◌, ◌+◌, ◌/◌, length, refl, sym, ap₂, ◌∙◌, arith, length-take-le}
use Rattle.std.proofs.lemmas.Result.{err_from_is_err_and}
use Rattle.table.specs.Bytes.{functions, nodes}
use Rattle.table.specs.Check.{accepted}
use Rattle.table.specs.Working.{Read}
use Rattle.table.proofs.SurveyLaws.{survey_taken}
use Rattle.list.proofs.NodeLaws.{few}
use Rattle.list.proofs.TagVerdicts.{filled_refused, fill_turned, fill_wrong, fill_right, filled_right}
use Rattle.list.proofs.fill_tags.Goals as goal
use Rattle.list.proofs.fill_tags.Goals.{In_ok-design, Else-length-size}

taken : (c : In_ok-design) → Read c.args.table.now c.survey.new.cells
    × (c.in_ok-design.design.main.0 ≡ functions c.args.table.now) × (c.in_ok-design.design.last.0 ≡ nodes c.args.table.now)
taken c = survey_taken _ _ _ _ _ refl c.survey.ensures.0 c.survey.ensures.1 c.in_ok-design.was

right : (c : Else-length-size) → length c.args.tags.now ≡ (c.in_ok-design.design.last.0 + 7) / 8
right c = c.if-length-size.false ∙ c.size.ensures

-- the tag list is no longer than the 64 bytes of the set
short : (c : Else-length-size) → length c.args.tags.now ≤ 64
short c =
    let k = survey_taken _ _ _ _ _ refl c.survey.ensures.0 c.survey.ensures.1 c.in_ok-design.was in
    omega (arith, right c, k.2, (few _ k.0.taken).1)

pub returns-in_err-design : goal.returns-in_err-design
returns-in_err-design c = let p = err_from_is_err_and c.from_residual.result c.from_residual.ensures.1 in
    let e = fill_turned _ _ _ _ c.in_err-design.ensures.0 in
    rw (p.1, p.2) (e, filled_refused _ _ _ _ _ e refl)

pub returns-then-length-size : goal.returns-then-length-size
returns-then-length-size c = let k = taken (goal.at.returns-then-length-size c).In_ok-design in
    let e = fill_wrong _ k.0.taken _ _ k.2 (λ q. c.if-length-size.true (q ∙ sym c.size.ensures)) in
    rw c.into.ensures (e, filled_refused _ _ _ _ _ e refl)

pub invariant_of-read : goal.invariant_of-read
invariant_of-read c = record { read = (taken (goal.at.invariant_of-read c).In_ok-design).0 }

pub slice_bounds-set-end : goal.slice_bounds-set-end
slice_bounds-set-end c = omega (arith, short (goal.at.slice_bounds-set-end c).Else-length-size, c.arbiters-set.ensures.0)

pub slice_bounds-copy_from_slice-end : goal.slice_bounds-copy_from_slice-end
slice_bounds-copy_from_slice-end c =
    let few = short (goal.at.slice_bounds-copy_from_slice-end c).Else-length-size in
    sym (length-take-le _ _ (omega (arith, few, c.arbiters-set.ensures.0)))

pub copy_from_slice-requires : goal.copy_from_slice-requires
copy_from_slice-requires c =
    let few = short (goal.at.copy_from_slice-requires c).Else-length-size in
    sym (length-take-le _ _ (omega (arith, few, c.arbiters-set.ensures.0)))

pub returns : goal.returns
returns c = let k = taken (goal.at.returns c).In_ok-design in
    let set = c.arbiters-set.ensures in
    let l = right (goal.at.returns c).Else-length-size in (
      ap₂ accepted k.1 k.2 ∙ fill_right _ k.0.taken _ _ k.2 l,
      filled_right _ k.0.taken _ _ k.2 l _ _ set.0 set.1 set.2 c.copy_from_slice.ensures.after,
    )
