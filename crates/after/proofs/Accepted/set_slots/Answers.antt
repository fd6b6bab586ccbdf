use Rattle.report.specs.Report.{most_parts, part_count_of}
use Prim.Native.Nat.{◌≤◌, ◌+◌, ◌*◌}
use mathlib.Core.Path.{◌≡◌, ap, ◌∙◌}
use lib.ListN.{length}
use native.Mathlib.Omega.{arith}
use Rattle.rules.specs.Block.{slot_size, head_size, block_size}
use Rattle.after.proofs.Blocks.{progress-none, progress-length, progress-all, slot-turned, lent_length}
use Rattle.after.proofs.Accepted.set_slots.Goals as goal

pub loop-i-init : goal.loop-i-init
loop-i-init c = (omega arith, omega arith, progress-none _ _ _ (omega arith))

pub set_slot-requires : goal.set_slot-requires
set_slot-requires c =
    let here = c.loop-i in
    lent_length here.b (head_size + slot_size * here.i) slot_size (omega arith)

pub loop-i-preserved : goal.loop-i-preserved
loop-i-preserved c =
    let b = c.args.b.now in
    let report = c.args.self.now.report.now in
    let size : length b ≡ block_size = omega arith in
    let few : part_count_of report ≤ most_parts = omega arith in
    let e =
    slot-turned b report c.args.plan size few _ _ c.loop-i.i c.eq.ensures c.loop-i.invariant.2 (omega arith)
    c.set_slot.auto.z c.set_slot.ensures in
    (omega arith, ap length e ∙ progress-length b report c.args.plan size few (c.loop-i.i + 1), e)

pub returns : goal.returns
returns c = let e : c.loop-i.i ≡ 8 = omega arith in rw e at c.loop-i.invariant.2 ∙ progress-all _ _ _
