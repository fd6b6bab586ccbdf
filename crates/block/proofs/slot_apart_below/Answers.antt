use Rattle.std.proofs.Common.{ap, sym, ◌∙◌}
use mathlib.Core.Bool.{not}
use Rattle.block.proofs.FreeSlots.{apart_used, apart_free}
use Rattle.block.proofs.slot_apart_below.Goals as goal

pub returns-then-not-is_used : goal.returns-then-not-is_used
returns-then-not-is_used c = ap not c.if-not-is_used.true ∙ sym (apart_free _ c.args.below.now (sym c.is_used.ensures ∙ c.if-not-is_used.true))

pub returns-else-not-is_used : goal.returns-else-not-is_used
returns-else-not-is_used c = c.apart_from.ensures ∙ rw c.record_in.ensures (apart_used _ c.args.below.now (sym c.is_used.ensures ∙ c.if-not-is_used.false))
