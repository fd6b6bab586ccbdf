use native.Mathlib.Omega.{arith}
use Rattle.levels.proofs.Spans.{less, not_less, at_most, not_at_most, sooner}
use Rattle.levels.proofs.Parts.{before-start, past_end, within}
use Rattle.levels.proofs.Source.level_in.Goals as goal

pub returns-then-lt : goal.returns-then-lt
returns-then-lt c = before-start _ _ c.requires.passed (less _ _ c.lt.ensures c.if-lt.true)

pub returns-then-le : goal.returns-then-le
returns-then-le c = past_end _ _ c.requires.passed (at_most _ _ c.le.ensures c.if-le.true) (omega arith)

pub returns : goal.returns
returns c = within _ _ (not_less _ _ c.lt.ensures c.if-lt.false) (not_at_most _ _ c.le.ensures c.if-le.false) c.step_among-among.ensures (sooner _ _ c.min-until.ensures)
