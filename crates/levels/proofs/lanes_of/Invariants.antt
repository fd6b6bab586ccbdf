use Prim.Native.Nat.{◌-◌}
use Rattle.levels.specs.Lanes.{lane_count, lane_at}
use Rattle.levels.proofs.Choosing.{Filled}
use Rattle.levels.proofs.lanes_of.Given as goal

abbrev pub invariant-loop-i : goal.invariant-loop-i
invariant-loop-i l = Filled (lane_at l.b l.report l.swept l.direction.0) l.each l.i

abbrev pub decreases-loop-i : goal.decreases-loop-i
decreases-loop-i l = lane_count - l.i
