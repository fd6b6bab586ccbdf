use Rattle.std.proofs.Common.{rules}
use Rattle.levels.proofs.Spans.{not_at_most}
use Rattle.levels.proofs.Bounds.{extremes-some, extremes_no}
use Rattle.levels.proofs.Lanes.extremes_of.Goals as goal

pub returns-then-le : goal.returns-then-le
returns-then-le c = extremes-some _ _ _ (λ e from p r s. search rules) _ _ c.gather-e.ensures

pub returns-else-le : goal.returns-else-le
returns-else-le c = extremes_no _ _ _ (λ e from p r s. search rules) _ _ c.gather-e.ensures (not_at_most _ _ c.le.ensures c.if-le.false)
