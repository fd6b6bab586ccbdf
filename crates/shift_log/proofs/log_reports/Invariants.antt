use Rattle.std.proofs.Common.{◌≤◌}
use Rattle.shift_log.proofs.log_reports.Given as goal

abbrev pub invariant-loop : goal.invariant-loop
invariant-loop g l = l.got ≤ 1850
