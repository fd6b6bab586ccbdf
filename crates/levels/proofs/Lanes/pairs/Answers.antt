use Rattle.levels.proofs.Counted.{first_pairs, next-pairs}
use Rattle.levels.proofs.Lanes.pairs.Goals as goal

pub returns-then-i-eq0 : goal.returns-then-i-eq0
returns-then-i-eq0 c = first_pairs _ _ c.if-i-eq0.true

pub returns : goal.returns
returns c = next-pairs _ _ c.if-i-eq0.false c.slot_at.ensures
