use Prim.Native.Nat.{◌-◌}
use Rattle.fields.proofs.Tests.{Tested}
use Rattle.levels.proofs.Within.{slot-passes}
use Rattle.levels.proofs.Limits.forced_within.Given as goal

abbrev pub invariant-loop-i : goal.invariant-loop-i
invariant-loop-i l = Tested (slot-passes l.self l.b l.counted l.direction.0) (λ j. j) 8 l.ok l.i

abbrev pub decreases-loop-i : goal.decreases-loop-i
decreases-loop-i l = 8 - l.i
