use mathlib.Core.Path.{ap}
use Rattle.report.specs.declared.Head.{Head}
use Rattle.after.proofs.Blocks.{tested, applied, left_alone}
use Rattle.after.proofs.apply.Goals as goal

pub set_slots-requires : goal.set_slots-requires
set_slots-requires c =
    let k = tested c.args.b.now _ c.head_of-h.ensures c.if-b-h.true in
    k.0

pub returns-then-b-h : goal.returns-then-b-h
returns-then-b-h c =
    let k = tested c.args.b.now _ c.head_of-h.ensures c.if-b-h.true in
    applied _ _ _ k.0 k.1 c.row_after-row.ensures
    (ap (λ (h : Head). h.stamp.0) c.head_of-h.ensures)
    c.set_slots.ensures c.set_head.ensures

pub returns-else-b-h : goal.returns-else-b-h
returns-else-b-h c = left_alone _ _ _ c.head_of-h.ensures c.if-b-h.false
