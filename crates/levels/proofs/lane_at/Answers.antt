use mathlib.Core.Path.{refl, sym, ◌∙◌}
use Rattle.fields.proofs.Bools.{chosen, passed_over}
use Rattle.levels.proofs.Counted.{first_lane, next-lane}
use Rattle.levels.proofs.lane_at.Goals as goal

pub returns-then-swept : goal.returns-then-swept
returns-then-swept c = first_lane _ _ _ _ c.if-i-eq0.true (c.report_lane.ensures ∙ sym (chosen _ _ refl c.if-swept.true))

pub returns-else-swept : goal.returns-else-swept
returns-else-swept c = first_lane _ _ _ _ c.if-i-eq0.true (sym (passed_over _ _ refl c.if-swept.false))

pub returns-then-swept-slot : goal.returns-then-swept-slot
returns-then-swept-slot c = next-lane _ _ _ _ c.if-i-eq0.false (c.slot_lane.ensures ∙ sym (chosen _ _ refl c.if-swept-slot.true))

pub returns-else-swept-slot : goal.returns-else-swept-slot
returns-else-swept-slot c = next-lane _ _ _ _ c.if-i-eq0.false (sym (passed_over _ _ refl c.if-swept-slot.false))
