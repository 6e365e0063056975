-- `list_records` meets its contract: the chains for 512 records, and then all of them in front.
use Rattle.std.proofs.Common.{sym, ◌∙◌, length-take-le}
use Rattle.std.proofs.lemmas.Result.{err_from_is_err_and}
use Rattle.list.proofs.RecordVerdicts.{marked_room, whole_verdict, padded_by}
use Rattle.list.proofs.list_records.Goals as goal

pub returns-in_err-marked : goal.returns-in_err-marked
returns-in_err-marked c = let p = err_from_is_err_and c.from_residual.result c.from_residual.ensures.1 in
    rw (p.1, p.2) (record { told = c.in_err-marked.ensures.told ∙ whole_verdict _; listing = tt })

pub slice_bounds-items-end : goal.slice_bounds-items-end
slice_bounds-items-end c = marked_room _ _ _ c.in_ok-marked.ensures

pub slice_bounds-write-end : goal.slice_bounds-write-end
slice_bounds-write-end c = sym (length-take-le _ _ (marked_room _ _ _ c.in_ok-marked.ensures))

pub write-requires : goal.write-requires
write-requires c = (c.in_ok-marked.ensures.marked, length-take-le _ _ (marked_room _ _ _ c.in_ok-marked.ensures))

pub returns : goal.returns
returns c = let h = c.in_ok-marked.ensures in
    record {
      told = h.told ∙ whole_verdict _;
      listing = record { counted = h.marked.many; ordered = padded_by _ _ _ c.write.ensures h.marked.many };
    }
