use Rattle.std.proofs.Common.{refl}
use Rattle.forms.specs.Lent.{length_given, buffer_after}
use Rattle.form_reader.proofs.FormRead.{not_told, read_no}
use Rattle.form_reader.proofs.read_form.Goals as goal

pub returns-in-None-clause-value : goal.returns-in-None-clause-value
unfolding length_given
returns-in-None-clause-value c = rw (← read_no c.args.form.now (not_told c.args.form.now refl c.in-None.ensures.1))

pub returns-in-None-clause-report_after : goal.returns-in-None-clause-report_after
unfolding buffer_after
returns-in-None-clause-report_after c = rw (← read_no c.args.form.now (not_told c.args.form.now refl c.in-None.ensures.1))
