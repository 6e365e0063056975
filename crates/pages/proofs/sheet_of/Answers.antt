-- `sheet_of` meets its contract: zeros, and the sheet over them.
use Rattle.std.proofs.lemmas.Result.{err_from_is_err_and}
use Rattle.pages.proofs.SheetLaws.{printed_by}
use Rattle.pages.proofs.sheet_of.Goals as goal

pub returns-in_err-filled : goal.returns-in_err-filled
returns-in_err-filled c = let p = err_from_is_err_and c.from_residual.result c.from_residual.ensures.1 in
    rw (p.1, p.2) (record { told = c.in_err-filled.ensures.told; counted = tt; text = tt })

pub returns : goal.returns
returns c = let f = c.in_ok-filled.ensures in
    record { told = f.told; counted = f.counted; text = printed_by _ _ f.text }
