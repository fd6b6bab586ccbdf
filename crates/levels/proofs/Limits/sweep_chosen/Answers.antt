use native.Mathlib.Omega.{arith}
use Rattle.levels.proofs.Spans.{at_most, not_at_most, soonest-of}
use Rattle.levels.proofs.Stretches.{along-none, along-ends, along-stops, along-turn, forced-place, positive-place, negative-place}
use Rattle.levels.proofs.Limits.sweep_chosen.Goals as goal

pub loop-m-init : goal.loop-m-init
loop-m-init c =
    let ends = soonest-of _ _ _ _ c.min-end.ensures c.min.ensures c.min-end-2.ensures in
    (ends, along-none _ _ c.requires.ready c.requires.start_lt_end (omega arith) ends c.nothing_found-found.ensures)

pub returns-then-le : goal.returns-then-le
returns-then-le c =
    along-stops _ _ c.requires.ready c.requires.start_lt_end (omega arith) c.loop-m.invariant.0 c.loop-m.invariant.1 c.loop-m-test.true
    c.level_at-forced.ensures c.level_at-positive.ensures c.level_at-negative.ensures
    (soonest-of _ _ _ _ c.min-sooner.ensures c.min-in-loop-m.ensures c.min-until.ensures) (at_most _ _ c.le.ensures c.if-le.true)

pub moved-f-requires : goal.moved-f-requires
moved-f-requires c =
    forced-place _ _ c.requires.ready c.requires.start_lt_end (omega arith) c.loop-m.invariant.0 c.loop-m.invariant.1 c.loop-m-test.true

pub moved-p-requires : goal.moved-p-requires
moved-p-requires c =
    positive-place _ _ c.requires.ready c.requires.start_lt_end (omega arith) c.loop-m.invariant.0 c.loop-m.invariant.1 c.loop-m-test.true

pub moved-n-requires : goal.moved-n-requires
moved-n-requires c =
    negative-place _ _ c.requires.ready c.requires.start_lt_end (omega arith) c.loop-m.invariant.0 c.loop-m.invariant.1 c.loop-m-test.true

pub loop-m-preserved : goal.loop-m-preserved
loop-m-preserved c = (
  c.loop-m.invariant.0,
  along-turn _ _ c.requires.ready c.requires.start_lt_end (omega arith) c.loop-m.invariant.0 c.loop-m.invariant.1 c.loop-m-test.true
      c.level_at-forced.ensures c.level_at-positive.ensures c.level_at-negative.ensures
      (soonest-of _ _ _ _ c.min-sooner.ensures c.min-in-loop-m.ensures c.min-until.ensures) (not_at_most _ _ c.le.ensures c.if-le.false)
      c.add_span-found.ensures c.moved-f.ensures c.moved-p.ensures c.moved-n.ensures,
)

pub returns : goal.returns
returns c =
    along-ends _ _ c.requires.ready c.requires.start_lt_end (omega arith) c.loop-m.invariant.0 c.loop-m.invariant.1 c.loop-m-test.false
