use Rattle.form_reader.proofs.PartsPut.{PartsPut}
use Rattle.form_reader.proofs.spelled_points.put_points.Given as goal

abbrev pub invariant-loop-j : goal.invariant-loop-j
invariant-loop-j l = PartsPut l.s l.grid l.at l.place l.j l.spelled l.point l.here l.fn.report l.report
