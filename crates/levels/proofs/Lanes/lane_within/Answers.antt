use Rattle.levels.proofs.EachLane.{lane-apart}
use Rattle.levels.proofs.Lanes.lane_within.Goals as goal

pub returns-else-is_within : goal.returns-else-is_within
returns-else-is_within c = lane-apart c.args.self.now c.args.i _ _ c.in_ok-lane.was c.overlapping.ensures (rw c.eq.ensures at c.if-is_within.false)
