use Rattle.fields.proofs.Tests.{tested-none}
use Rattle.levels.proofs.Within.{slot-passed, slot-tested, slots-tested}
use Rattle.levels.proofs.Limits.forced_within.Goals as goal

pub loop-i-init : goal.loop-i-init
loop-i-init c = tested-none

pub loop-i-preserved-then-not-counted-i : goal.loop-i-preserved-then-not-counted-i
loop-i-preserved-then-not-counted-i c =
    slot-passed _ _ c.args.counted c.args.direction.0 c.loop-i.invariant c.loop-i-test.true c.if-not-counted-i.true

pub loop-i-preserved : goal.loop-i-preserved
loop-i-preserved c =
    slot-tested _ _ c.args.counted c.args.direction.0 c.loop-i.invariant c.loop-i-test.true c.if-not-counted-i.false c.slot_within-ok.ensures

pub returns : goal.returns
returns c = slots-tested _ _ _ _ c.loop-i.invariant c.loop-i-test.false
