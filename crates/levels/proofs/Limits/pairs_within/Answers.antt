use native.Mathlib.Omega.{arith}
use Rattle.fields.proofs.Tests.{tested-none}
use Rattle.levels.proofs.Within.{pair-tested, pairs-tested}
use Rattle.levels.proofs.Limits.pairs_within.Goals as goal

pub loop-j-init : goal.loop-j-init
loop-j-init c = tested-none

pub loop-j-preserved : goal.loop-j-preserved
loop-j-preserved c = pair-tested _ _ c.loop-j.invariant (omega arith) c.pair_at-pair.ensures
    c.power_within-ok.ensures

pub returns : goal.returns
returns c = pairs-tested _ _ c.stored_count-count.ensures c.loop-j.invariant c.loop-j-test.false
