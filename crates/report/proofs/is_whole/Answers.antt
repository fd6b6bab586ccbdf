use mathlib.Core.Path.{sym, ap, ◌∙◌}
use Rattle.std.specs.Prelude.{Bool, ◌&&◌}
use Rattle.report.specs.Report.{marked, whole}
use Rattle.report.proofs.is_whole.Goals as goal

pub returns-then-sizes_fit : goal.returns-then-sizes_fit
unfolding whole
returns-then-sizes_fit c = rw (sym c.sizes_fit.ensures ∙ c.if-sizes_fit.true) c.marks_fit.ensures

pub returns-else-sizes_fit : goal.returns-else-sizes_fit
unfolding whole
returns-else-sizes_fit c = c.if-sizes_fit.false ∙ sym (ap (λ (t : Bool). t && marked c.args.report.now) (sym c.sizes_fit.ensures ∙ c.if-sizes_fit.false))
