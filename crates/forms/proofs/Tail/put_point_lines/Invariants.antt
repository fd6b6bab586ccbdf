use Rattle.std.proofs.Common.{◌*◌, ◌-◌}
use Rattle.fields.specs.Lists.{series}
use Rattle.report.specs.Report.{part_at}
use Rattle.forms.specs.Tails.{Prepends}
use Rattle.forms.specs.Form.{point_lines}
use Rattle.forms.proofs.Tail.put_point_lines.Given as goal

abbrev pub invariant-loop-i : goal.invariant-loop-i
invariant-loop-i l = Prepends (29 * l.i) l.fn.self (point_lines l.h l.step (series (part_at l.report) (l.k - l.i) l.i)) l.self
