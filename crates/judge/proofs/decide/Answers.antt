use mathlib.Core.Path.{refl, ◌∙◌}
use Rattle.std.proofs.lemmas.Result.{err_from_is_err_and}
use Rattle.judge.proofs.Decisions.{decides}
use Rattle.judge.proofs.decide.Goals as goal

pub returns-in_err-validated : goal.returns-in_err-validated
returns-in_err-validated c =
    let up = err_from_is_err_and c.from_residual.result c.from_residual.ensures.1 in
    rw (up.1, up.2) (rw c.in_err-validated.was at (decides _ _ c.head_of-h.ensures c.unit_head-unit.ensures c.validate-validated.ensures
    refl refl refl refl refl refl))

pub returns-in_err-ask_holder : goal.returns-in_err-ask_holder
returns-in_err-ask_holder c =
    let up = err_from_is_err_and c.from_residual-in_err-ask_holder.result c.from_residual-in_err-ask_holder.ensures.1 in
    rw (up.1, up.2) (rw (c.in_ok-validated.was, c.in_err-ask_holder.was) at (decides _ _ c.head_of-h.ensures c.unit_head-unit.ensures
    c.validate-validated.ensures c.record_by.ensures c.find_holder-slot.ensures c.held_record-held.ensures c.is_some.ensures
    c.ask_holder.ensures refl))

pub returns : goal.returns
returns c = c.decide_limits.ensures ∙ (rw (c.in_ok-validated.was, c.in_ok-ask_holder.was) at (decides _ _ c.head_of-h.ensures
    c.unit_head-unit.ensures c.validate-validated.ensures c.record_by.ensures c.find_holder-slot.ensures c.held_record-held.ensures
    c.is_some.ensures c.ask_holder.ensures c.changes_state-changes.ensures))
