use Rattle.levels.proofs.Gathered.{lanes-none, lanes-past, lanes-more, lanes-all}
use Rattle.levels.proofs.Lanes.gather.Goals as goal

pub loop-i-init : goal.loop-i-init
loop-i-init g c = lanes-none

pub loop-i-preserved-in_default : goal.loop-i-preserved-in_default
loop-i-preserved-in_default g c = lanes-past c.loop-i.invariant c.loop-i-test.true c.in_default.ensures

pub loop-i-preserved : goal.loop-i-preserved
loop-i-preserved g c =
    lanes-more c.loop-i.invariant c.loop-i-test.true c.in-Some.ensures c.pairs.ensures c.gather-gathered.ensures

pub returns : goal.returns
returns g c = lanes-all c.loop-i.invariant c.loop-i-test.false
