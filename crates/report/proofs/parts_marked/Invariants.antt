use Rattle.fields.proofs.Tests.{Tested}
use Rattle.report.specs.Report.{part_marked}
use Rattle.report.proofs.parts_marked.Given as goal

abbrev pub invariant-loop-part : goal.invariant-loop-part
invariant-loop-part l = Tested (part_marked l.report) (λ j. j) l.k l.ok l.part-index
