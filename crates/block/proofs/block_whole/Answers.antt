use Rattle.std.proofs.Common.{refl, ap, ◌∙◌}
use Rattle.block.specs.Slot.{head_whole}
use Rattle.block.proofs.Turns.{wrong_size, wrong-head, block-answer}
use Rattle.block.proofs.block_whole.Goals as goal

pub returns-in_default : goal.returns-in_default
returns-in_default c = wrong_size c.args.unit c.args.b.now c.in_default.ensures.cases

pub returns-then-not-head_whole : goal.returns-then-not-head_whole
returns-then-not-head_whole c =
    let d = c.in-Some.ensures.cases in
    wrong-head c.args.unit c.args.b.now d.long (c.head_whole.ensures ∙ ap (head_whole c.args.unit) d.same) c.if-not-head_whole.true

pub returns-then-slots_whole : goal.returns-then-slots_whole
returns-then-slots_whole c =
    let d = c.in-Some.ensures.cases in
    rw c.if-slots_whole.true at (block-answer c.args.unit c.args.b.now d.long d.same c.head_whole.ensures c.if-not-head_whole.false
    c.unit_head-h.ensures c.slots_of-slots.ensures c.free_from-end.ensures c.slots_whole.ensures c.slots_apart.ensures)

pub returns-else-slots_whole : goal.returns-else-slots_whole
returns-else-slots_whole c =
    let d = c.in-Some.ensures.cases in
    c.if-slots_whole.false ∙ rw c.if-slots_whole.false at (block-answer c.args.unit c.args.b.now d.long d.same c.head_whole.ensures c.if-not-head_whole.false
    c.unit_head-h.ensures c.slots_of-slots.ensures c.free_from-end.ensures c.slots_whole.ensures refl)
