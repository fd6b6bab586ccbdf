use Rattle.std.proofs.Common.{arith, sym, ◌∙◌}
use Rattle.forms.specs.Lent.{length_given, buffer_after}
use Rattle.forms.proofs.Formed.{formed, had, missing}
use Rattle.forms.proofs.write_form.Goals as goal

pub returns-then-not-has_form-clause-value : goal.returns-then-not-has_form-clause-value
unfolding length_given
returns-then-not-has_form-clause-value c = rw (missing c.args.report.now (sym c.has_form.ensures ∙ c.if-not-has_form.true))

pub returns-then-not-has_form-clause-form_after : goal.returns-then-not-has_form-clause-form_after
unfolding buffer_after
returns-then-not-has_form-clause-form_after c = rw (missing c.args.report.now (sym c.has_form.ensures ∙ c.if-not-has_form.true))

pub lay_form-requires-else-part_count-le10-clause-place : goal.lay_form-requires-else-part_count-le10-clause-place
lay_form-requires-else-part_count-le10-clause-place c =
    let few = (formed c.args.report.now (sym c.has_form.ensures ∙ c.if-not-has_form.false)).sized.few in
    (omega (arith, few), omega arith)

pub returns-then-part_count-le10-clause-value : goal.returns-then-part_count-le10-clause-value
returns-then-part_count-le10-clause-value c =
    rw (had c.args.report.now (sym c.has_form.ensures ∙ c.if-not-has_form.false)) c.lay_form.ensures.value

pub returns-then-part_count-le10-clause-form_after : goal.returns-then-part_count-le10-clause-form_after
returns-then-part_count-le10-clause-form_after c =
    rw (had c.args.report.now (sym c.has_form.ensures ∙ c.if-not-has_form.false)) c.lay_form.ensures.form_after

pub returns-else-part_count-le10-clause-value : goal.returns-else-part_count-le10-clause-value
returns-else-part_count-le10-clause-value c =
    rw (had c.args.report.now (sym c.has_form.ensures ∙ c.if-not-has_form.false)) c.lay_form-else-part_count-le10.ensures.value

pub returns-else-part_count-le10-clause-form_after : goal.returns-else-part_count-le10-clause-form_after
returns-else-part_count-le10-clause-form_after c =
    rw (had c.args.report.now (sym c.has_form.ensures ∙ c.if-not-has_form.false)) c.lay_form-else-part_count-le10.ensures.form_after
