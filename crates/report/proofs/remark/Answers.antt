use Rattle.report.proofs.remark.Goals as goal
use mathlib.Core.Path.{ap, ◌∙◌}
use native.Mathlib.Omega.{arith}
use Rattle.fields.proofs.Slices.{part-lent}
use Rattle.report.specs.Remark.{bytes_there}
use Rattle.report.proofs.Remarks.{in-report}

pub overflow_add-end : goal.overflow_add-end
overflow_add-end c = omega (arith, in-report _ (rw c.in-Some-InReport.field-0-is at c.in-Some-InReport.ensures))

pub slice_bounds-result-end : goal.slice_bounds-result-end
slice_bounds-result-end c = omega (arith, in-report _ (rw c.in-Some-InReport.field-0-is at c.in-Some-InReport.ensures))

pub returns-in-Some-InReport-clause-bytes : goal.returns-in-Some-InReport-clause-bytes
returns-in-Some-InReport-clause-bytes c =
    part-lent _ _ _
    ∙ ap (λ p. bytes_there p c.args.report.now c.args.standing.now) (rw c.in-Some-InReport.field-0-is at c.in-Some-InReport.ensures)
