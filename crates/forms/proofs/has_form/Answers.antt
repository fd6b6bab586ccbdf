use Rattle.std.proofs.Common.{ap, sym, ◌∙◌}
use Rattle.std.specs.Prelude.{is_ok}
use Rattle.fields.specs.Lists.{every, and_each, all}
use Rattle.forms.specs.Form.{printable, has_form}
use Rattle.forms.proofs.Formed.{tested}
use Rattle.forms.proofs.has_form.Goals as goal

pub returns-then-not-is_whole : goal.returns-then-not-is_whole
unfolding has_form every and_each
returns-then-not-is_whole c = rw (← c.is_whole.ensures, c.if-not-is_whole.true)

pub returns : goal.returns
returns c =
    tested c.args.report.now (sym c.is_whole.ensures ∙ c.if-not-is_whole.false) c.head_of-h.ensures c.head_passes.ensures
    (c.is_ok.ensures.value ∙ ap is_ok c.judge_cover.ensures) c.unit_in_range.ensures c.owner_in_range.ensures
    (c.is_printable.ensures ∙ ap (all printable) c.text_of.ensures.text)
