-- `decide` meets its contract: the sizes first, then the sweep, and what it does not pass is inspected.
use mathlib.Core.Path.{sym}
use Rattle.std.proofs.lemmas.Result.{err_from_is_err_and}
use Rattle.table.proofs.SurveyLaws.{framed, frame_refused, refuses_at, accepts}
use Rattle.table.proofs.Reasons.{numbered}
use Rattle.table.proofs.HandLaws.{kindred}
use Rattle.table.proofs.decide.Goals as goal

pub returns-in_err-framed : goal.returns-in_err-framed
returns-in_err-framed c = let p = err_from_is_err_and c.from_residual.result c.from_residual.ensures.1 in
    rw p.1 (refuses_at _ _ _ _ p.2 (frame_refused _ _ c.in_err-framed.ensures (numbered _)))

pub passes-requires : goal.passes-requires
passes-requires c = (framed _ (sym c.in_ok-framed.ensures), c.requires)

pub last_function-requires : goal.last_function-requires
last_function-requires c = framed _ (sym c.in_ok-framed.ensures)

pub last_node-requires : goal.last_node-requires
last_node-requires c = framed _ (sym c.in_ok-framed.ensures)

pub returns-then-passes : goal.returns-then-passes
returns-then-passes c = let h = c.passes.ensures c.if-passes.true in
    accepts _ _ _ h.0 c.last_function.ensures c.last_node.ensures (kindred _ _ (framed _ (sym c.in_ok-framed.ensures)) h.1)

pub inspect-requires : goal.inspect-requires
inspect-requires c = framed _ (sym c.in_ok-framed.ensures)
