use mathlib.Core.Path.{refl, sym, ◌∙◌}
use borrow.Author.Tests.{eqb-true, eqb-false, not-true, not-false}
use Rattle.levels.proofs.Spans.{sooner}
use Rattle.levels.proofs.Choosing.{looked-skipped, looked-past, looked-miss, looked-hit, looked-all, placed_at, placed-set}
use Rattle.levels.proofs.Lanes.choose_lane.Goals as goal

pub loop-i-preserved-in_default : goal.loop-i-preserved-in_default
loop-i-preserved-in_default c =
    (looked-skipped _ _ c.loop-i.invariant.0 c.loop-i-test.true c.in_default.is, c.loop-i.invariant.1)

pub loop-i-preserved-then-ne : goal.loop-i-preserved-then-ne
loop-i-preserved-then-ne c =
    (looked-past _ _ c.loop-i.invariant.0 c.loop-i-test.true c.in-Some.is (eqb-false _ _ (not-true _ (rw c.ne.ensures at c.if-ne.true))), c.loop-i.invariant.1)

pub level_in-step-requires : goal.level_in-step-requires
level_in-step-requires c = record {
  m_bound = c.requires.m_bound;
  passed = placed_at _ c.loop-i-test.true c.in-Some.is c.pairs-pairs.ensures c.loop-i.invariant.1;
}

pub returns-then-is_some : goal.returns-then-is_some
returns-then-is_some c = record {
  chosen = looked-hit _ _ c.loop-i.invariant.0 c.loop-i-test.true c.in-Some.is c.pairs-pairs.ensures (eqb-true _ _ (not-false _ (rw c.ne.ensures at c.if-ne.false))) refl
      c.held_until-held.ensures c.level_in-step.ensures.passed
      (c.level_in-step.ensures.ends (sym c.is_some.ensures ∙ c.if-is_some.true)) (sooner _ _ c.min.ensures);
  placed_after = placed-set _ c.loop-i-test.true c.in-Some.is c.pairs-pairs.ensures c.loop-i.invariant.1
      c.level_in-step.ensures.passed;
}

pub loop-i-preserved : goal.loop-i-preserved
loop-i-preserved c = (
  looked-miss _ _ c.loop-i.invariant.0 c.loop-i-test.true c.in-Some.is c.pairs-pairs.ensures (eqb-true _ _ (not-false _ (rw c.ne.ensures at c.if-ne.false)))
      c.level_in-step.ensures.stays (sym c.is_some.ensures ∙ c.if-is_some.false) (sooner _ _ c.min-until.ensures),
  placed-set _ c.loop-i-test.true c.in-Some.is c.pairs-pairs.ensures c.loop-i.invariant.1 c.level_in-step.ensures.passed,
)

pub returns : goal.returns
returns c = record {
  chosen = looked-all _ _ c.loop-i.invariant.0 c.loop-i-test.false;
  placed_after = c.loop-i.invariant.1;
}
