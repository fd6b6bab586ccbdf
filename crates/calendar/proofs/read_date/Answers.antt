use mathlib.Core.Path.{sym, ap, ◌∙◌}
use Rattle.fields.proofs.Bools.{chosen, passed_over}
use Rattle.calendar.specs.Digits.{has_date_form, date_in, minute_read}
use Rattle.calendar.proofs.Reading.{by_form}
use Rattle.calendar.proofs.read_date.Goals as goal

pub returns-then-not-has_date_form : goal.returns-then-not-has_date_form
returns-then-not-has_date_form c =
    let chunk = c.in-Ok.ensures.1 in
    sym (passed_over _ _ (c.has_date_form.ensures ∙ ap has_date_form chunk.same) c.if-not-has_date_form.true) ∙ by_form _ chunk.long

pub returns : goal.returns
returns c =
    let chunk = c.in-Ok.ensures.1 in
    c.try_from-2.ensures ∙ ap minute_read (c.date_in.ensures ∙ ap date_in chunk.same)
    ∙ sym (chosen _ _ (c.has_date_form.ensures ∙ ap has_date_form chunk.same) c.if-not-has_date_form.false) ∙ by_form _ chunk.long
