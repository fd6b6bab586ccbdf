use Rattle.fields.proofs.Tests.{Tested}
use Rattle.report.specs.Report.{part_at}
use Rattle.rules.specs.Records.{part_times}
use Rattle.validation.proofs.parts_are_times.Given as goal

abbrev pub invariant-loop-i : goal.invariant-loop-i
invariant-loop-i l = Tested part_times (part_at l.report) l.k l.times l.i
