-- `fill_sheet` meets its contract: the refusal of the check, or the sheet of the records found.
use mathlib.Core.Path.{◌≡◌, sym, ap, subst, ◌∙◌}
use mathlib.Core.List.{List}
use Prim.Native.Nat.{◌≤◌}
use lib.ListN.{length}
use lib.Seq.{sets}
use Rattle.std.proofs.lemmas.Result.{err_from_is_err_and}
use Rattle.table.specs.Bytes.{functions, nodes}
use Rattle.table.specs.Check.{accepted, check_of}
use Rattle.table.proofs.SurveyLaws.{taken_by}
use Rattle.list.specs.declared.Record.{Record}
use Rattle.list.proofs.RecordVerdicts.{few_arranged}
use Rattle.pages.specs.Rows.{rows_of}
use Rattle.pages.specs.Lines.{lines_of}
use Rattle.pages.specs.Sheet.{sheet_of}
use Rattle.pages.specs.Working.{Called}
use Rattle.pages.proofs.BoundLaws.{few_pages}
use Rattle.pages.proofs.CalledLaws.{all_called}
use Rattle.pages.proofs.SheetLaws.{bytes_of, over_in, over_none, found_records}
use Rattle.pages.proofs.fill_sheet.Goals as goal
use Rattle.pages.proofs.fill_sheet.Goals.{In_ok-found}

taken : (c : In_ok-found) → check_of c.args.table.now ≡ accepted (functions c.args.table.now) (nodes c.args.table.now)
taken c = (taken_by _ _ _ c.in_ok-found.ensures.told).0

pub returns-in_err-found : goal.returns-in_err-found
returns-in_err-found c = let p = err_from_is_err_and c.from_residual.result c.from_residual.ensures.1 in
    let told = c.in_err-found.ensures.told in
    rw (p.1, p.2) (record { told = told; counted = tt; text = over_none _ _ _ _ (sym told) })

pub shared_ref_as_front-print : goal.shared_ref_as_front-print
shared_ref_as_front-print c = (few_arranged _ _ c.in_ok-found.ensures).0

pub print-requires : goal.print-requires
print-requires c = subst (λ (l : List Record). (length (rows_of l) ≤ 576) × Called l)
    (sym (found_records _ _ c.in_ok-found.ensures.listing))
    (few_pages _ (taken (goal.at.print-requires c).In_ok-found), all_called _)

pub returns : goal.returns
unfolding sheet_of
returns c = let e = taken (goal.at.returns c).In_ok-found in
    let r = found_records _ _ c.in_ok-found.ensures.listing in
    record {
      told = c.in_ok-found.ensures.told;
      counted = c.print.ensures.0 ∙ ap (λ (l : List Record). length (lines_of (rows_of l))) r ∙ ap length (sym (bytes_of _ _ _ e));
      text = over_in _ _ _ _ _ e (c.print.ensures.1 ∙ ap (λ (l : List Record). sets c.args.text.now 0 (lines_of (rows_of l))) r);
    }
