use native.Mathlib.Omega.{arith}
use mathlib.Core.Path.{refl, sym, ◌∙◌}
use Rattle.levels.proofs.Spans.{sooner}
use Rattle.levels.proofs.Choosing.{placed-none, placed-later}
use Rattle.levels.proofs.Stretches.{chosen-judged, chosen-quiet}
use Rattle.levels.proofs.Turns.{judged-none, judged-quiet, judged-all}
use Rattle.levels.proofs.Lanes.sweep_lanes.Goals as goal

pub loop-m-init : goal.loop-m-init
loop-m-init c = (judged-none _ _ _ c.nothing_found-g.ensures refl, placed-none _)

pub loop-m-preserved-then-is_some : goal.loop-m-preserved-then-is_some
loop-m-preserved-then-is_some c =
    let later = c.sweep_chosen-stretch.ensures.later in (
      chosen-judged _ c.loop-m.invariant.0 c.choose_lane-forced.ensures.chosen c.choose_lane-positive.ensures.chosen
          c.choose_lane-negative.ensures.chosen c.sweep_chosen-stretch.ensures c.both_found-g.ensures,
      placed-later _ c.choose_lane-negative.ensures.placed_after (omega arith),
    )

pub loop-m-preserved : goal.loop-m-preserved
loop-m-preserved c =
    let later = c.choose_lane-forced.ensures.chosen.stands.later in
    let next = sooner _ _ c.min-m.ensures in (
      judged-quiet _ _ _ c.loop-m.invariant.0 c.loop-m-test.true
          (chosen-quiet _ c.choose_lane-forced.ensures.chosen (sym c.is_some.ensures ∙ c.if-is_some.false)) next,
      placed-later _ c.choose_lane-forced.ensures.placed_after (omega arith),
    )

pub returns : goal.returns
returns c = judged-all _ _ _ c.loop-m.invariant.0 c.loop-m-test.false
