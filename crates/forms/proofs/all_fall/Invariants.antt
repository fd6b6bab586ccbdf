use Rattle.std.proofs.Common.{true}
use Rattle.fields.proofs.Tests.{Tested}
use Rattle.report.specs.Report.{part_at}
use Rattle.forms.specs.Form.{falls}
use Rattle.forms.proofs.all_fall.Given as goal

abbrev pub invariant-loop-i : goal.invariant-loop-i
invariant-loop-i l = Tested (λ p. falls l.h l.step p.period.start) (part_at l.report) l.k true l.i
