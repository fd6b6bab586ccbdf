use mathlib.Core.Path.{sym}
use Rattle.fields.specs.Lists.{pick}
use Rattle.levels.specs.Counted.{swept_records}
use Rattle.levels.proofs.Within.{warn-none}
use Rattle.levels.proofs.Warned.{warn-narrowed}
use Rattle.levels.proofs.warn.Goals as goal

pub returns-then-forced_within : goal.returns-then-forced_within
returns-then-forced_within c =
    warn-none c.args.limits _ _ _ _ _ c.forced_within.ensures c.if-forced_within.true

pub returns : goal.returns
unfolding swept_records pick
returns c =
    warn-narrowed _ _ _ _ c.args.limits c.lanes_of-lanes.ensures (λ k e. sym e.1) c.asked_of-asked.ensures
    (rw c.common.ensures at c.sweep_lanes-g.ensures)
