-- `admission::admit` meets its contract: the table, its tags, then 24.
use Rattle.std.proofs.Common.{sym, refl, ◌∙◌}
use Rattle.std.proofs.lemmas.Result.{err_from_is_err_and}
use Rattle.circuit.specs.Meaning.{state_as}
use Rattle.circuit.proofs.EntryLaws.{agreed_from, stands_from, stray_standing, stand_standing, refused_standing}
use Rattle.circuit.proofs.admission.admit.Goals as goal

pub returns-in_err-design : goal.returns-in_err-design
returns-in_err-design c = let a = c.args in
    let e = c.in_err-design.ensures in
    let p = err_from_is_err_and c.from_residual.result c.from_residual.ensures.1 in
    rw (p.1, p.2) (record {
      told = λ second value registers. sym (refused_standing _ _ (state_as a.status.now second value registers a.occupant.now) _ _
          (sym e.told));
      read = λ F N q. cc;
    })

pub returns-then-strays : goal.returns-then-strays
returns-then-strays c = let a = c.args in
    let e = c.in_ok-design.ensures in
    let fair = agreed_from _ _ _ _ (sym e.told) in
    rw c.into.ensures (record {
      told = λ second value registers. sym (stray_standing _ _ fair
          (state_as a.status.now second value registers a.occupant.now) _ c.strays.ensures c.if-strays.true);
      read = λ F N q. e.read _ _ refl;
    })

pub returns : goal.returns
returns c = let a = c.args in
    let e = c.in_ok-design.ensures in
    let fair = agreed_from _ _ _ _ (sym e.told) in
    record {
      told = λ second value registers.
          let s = state_as a.status.now second value registers a.occupant.now in
          e.told ∙ fair.tagging ∙ sym (stand_standing _ _ fair s (stands_from _ s _ c.strays.ensures c.if-strays.false));
      read = λ F N q. e.read _ _ refl;
    }
