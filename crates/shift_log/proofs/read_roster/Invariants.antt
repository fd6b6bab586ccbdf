use Rattle.std.proofs.Common.{◌*◌, ◌≤◌}
use Rattle.shift_log.proofs.read_roster.Given as goal

abbrev pub invariant-loop-entries : goal.invariant-loop-entries
invariant-loop-entries g l = (l.length ≤ 28 * l.entries) × (l.ahead ≤ 2)
