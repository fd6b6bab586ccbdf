use Prim.Native.Nat.{◌-◌}
use Rattle.levels.specs.Lanes.{lane_count}
use Rattle.levels.proofs.Gathered.{LanesGathered}
use Rattle.levels.proofs.Lanes.gather.Given as goal

abbrev pub invariant-loop-i : goal.invariant-loop-i
invariant-loop-i g l = LanesGathered (goal.F-post g l.with_pair) l.self l.record_type.0 l.period l.fn.seen l.i l.gathered

abbrev pub decreases-loop-i : goal.decreases-loop-i
decreases-loop-i g l = lane_count - l.i
