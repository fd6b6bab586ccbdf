use Rattle.levels.proofs.Counted.{records-levels}
use Rattle.levels.proofs.Choosing.{filled-start, filled_next, filled-end}
use Rattle.levels.proofs.lanes_of.Goals as goal

pub loop-i-init : goal.loop-i-init
loop-i-init c = filled-start _

pub loop-i-preserved : goal.loop-i-preserved
loop-i-preserved c = filled_next _ c.loop-i.invariant c.loop-i-test.true c.lane_at-lane.ensures

pub returns : goal.returns
returns c = records-levels _ c.args.swept c.args.direction.0 (filled-end _ c.loop-i.invariant c.loop-i-test.false)
