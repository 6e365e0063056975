-- `fill_records` meets its contract: the chains for as many records as are lent, and then all of them in front.
use Rattle.std.proofs.Common.{sym, length-take-le}
use Rattle.std.proofs.lemmas.Result.{err_from_is_err_and}
use Rattle.list.proofs.RecordVerdicts.{marked_room, filled_by, filled_not}
use Rattle.list.proofs.fill_records.Goals as goal

pub returns-in_err-marked : goal.returns-in_err-marked
returns-in_err-marked c = let p = err_from_is_err_and c.from_residual.result c.from_residual.ensures.1 in
    let told = c.in_err-marked.ensures.told in
    rw (p.1, p.2) (told, filled_not _ _ _ _ (sym told))

pub slice_bounds-write-end : goal.slice_bounds-write-end
slice_bounds-write-end c = marked_room _ _ _ c.in_ok-marked.ensures

pub slice_bounds-write-end-2 : goal.slice_bounds-write-end-2
slice_bounds-write-end-2 c = sym (length-take-le _ _ (marked_room _ _ _ c.in_ok-marked.ensures))

pub write-requires : goal.write-requires
write-requires c = (c.in_ok-marked.ensures.marked, length-take-le _ _ (marked_room _ _ _ c.in_ok-marked.ensures))

pub returns : goal.returns
returns c = let h = c.in_ok-marked.ensures in
    (h.told, filled_by _ _ _ _ h c.write.ensures)
