use Rattle.std.proofs.Common.{sym, ◌∙◌, ap}
use Rattle.forms.specs.Lent.{length_given, buffer_after}
use Rattle.form_reading.specs.Reading.{report_by}
use Rattle.form_reader.proofs.FormRead.{not_told, read_yes, read_no}
use Rattle.form_reader.proofs.read_rest.Goals as goal

pub returns-then-not-spelled-clause-value : goal.returns-then-not-spelled-clause-value
unfolding length_given
returns-then-not-spelled-clause-value c =
    rw (← read_no c.args.form.now (not_told c.args.form.now c.put_report-spelled.ensures.spelled c.if-not-spelled.true))

pub returns-then-not-spelled-clause-report_after : goal.returns-then-not-spelled-clause-report_after
unfolding buffer_after
returns-then-not-spelled-clause-report_after c =
    rw (← read_no c.args.form.now (not_told c.args.form.now c.put_report-spelled.ensures.spelled c.if-not-spelled.true))

pub returns-then-not-is_form_of-clause-value : goal.returns-then-not-is_form_of-clause-value
unfolding length_given
returns-then-not-is_form_of-clause-value c =
    rw (← read_no c.args.form.now (sym c.is_form_of.ensures ∙ c.if-not-is_form_of.true))

pub returns-then-not-is_form_of-clause-report_after : goal.returns-then-not-is_form_of-clause-report_after
unfolding buffer_after
returns-then-not-is_form_of-clause-report_after c =
    rw (← read_no c.args.form.now (sym c.is_form_of.ensures ∙ c.if-not-is_form_of.true))

pub returns-clause-value : goal.returns-clause-value
returns-clause-value c =
    let form = c.args.form.now in
    let found = c.put_report-spelled.ensures.report ∙ ap (report_by form) c.put_report-spelled.ensures.read in
    rw (← read_yes form found (sym c.is_form_of.ensures ∙ c.if-not-is_form_of.false)) c.lay.ensures.value

pub returns-clause-report_after : goal.returns-clause-report_after
returns-clause-report_after c =
    let form = c.args.form.now in
    let found = c.put_report-spelled.ensures.report ∙ ap (report_by form) c.put_report-spelled.ensures.read in
    rw (← read_yes form found (sym c.is_form_of.ensures ∙ c.if-not-is_form_of.false)) c.lay.ensures.buffer_after
