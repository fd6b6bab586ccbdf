use Rattle.std.proofs.Common.{arith, ap, ◌∙◌}
use Rattle.report.specs.Report.{text_after}
use Rattle.report.proofs.Sizes.{whole-sized}
use Rattle.forms.proofs.Formed.{text-lent, text-short}
use Rattle.forms.proofs.text_of.Goals as goal

pub slice_bounds-result-end : goal.slice_bounds-result-end
slice_bounds-result-end c =
    let z = whole-sized c.args.report.now c.requires in
    omega (arith, z.long, c.part_count.ensures, c.text_after-start.ensures, c.u16_at.ensures)

pub returns-clause-text : goal.returns-clause-text
returns-clause-text c =
    text-lent c.args.report.now (c.text_after-start.ensures.0 ∙ ap text_after c.part_count.ensures) c.u16_at.ensures

pub returns-clause-bound : goal.returns-clause-bound
returns-clause-bound c =
    text-short c.args.report.now (c.text_after-start.ensures.0 ∙ ap text_after c.part_count.ensures) c.u16_at.ensures c.requires
