use Rattle.levels.proofs.Gathered.{pairs-none, pairs-more, pairs-all}
use Rattle.levels.proofs.Source.gather.Goals as goal

pub loop-j-init : goal.loop-j-init
loop-j-init g c = pairs-none

pub loop-j-preserved : goal.loop-j-preserved
loop-j-preserved g c = pairs-more c.loop-j.invariant c.loop-j-test.true c.pair-pair.ensures c.with_pair-gathered.ensures

pub returns : goal.returns
returns g c = pairs-all c.loop-j.invariant c.loop-j-test.false
