use mathlib.Core.Path.{sym, ◌∙◌}
use borrow.Author.Tests.{ne_eqb}
use Rattle.fields.specs.Lists.{pick}
use Rattle.report.specs.Remark.{remark_place}
use Rattle.report.proofs.remark_place.Goals as goal

pub returns-then-not-is_whole : goal.returns-then-not-is_whole
unfolding remark_place pick
returns-then-not-is_whole c = rw (sym c.is_whole.ensures ∙ c.if-not-is_whole.true)

pub returns-then-length-eq0 : goal.returns-then-length-eq0
unfolding remark_place pick
returns-then-length-eq0 c = rw (sym c.is_whole.ensures ∙ c.if-not-is_whole.false, ← c.u16_at-length.ensures, c.if-length-eq0.true)

pub returns : goal.returns
unfolding remark_place pick
returns c =
    rw (
      sym c.is_whole.ensures ∙ c.if-not-is_whole.false,
      ← c.u16_at-length.ensures,
      ne_eqb _ 0 c.if-length-eq0.false,
      c.text_after-start.ensures.0,
      c.u16_at.ensures,
    )
