use mathlib.Core.Path.{sym, ◌∙◌}
use native.Mathlib.Omega.{arith}
use Rattle.block.proofs.Pairs.{free-slot, too_many, fails-alone, asked-pairs, alone-times}
use Rattle.block.proofs.slot_whole.Goals as goal

pub returns-then-k-gt-MOST_PARTS : goal.returns-then-k-gt-MOST_PARTS
returns-then-k-gt-MOST_PARTS c = sym (too_many _ _ _ c.is_used.ensures c.if-is_used.true
    c.stored_count-k.ensures c.if-k-gt-MOST_PARTS.true)

pub returns-then-not-holds_alone : goal.returns-then-not-holds_alone
returns-then-not-holds_alone c = fails-alone _ _ _ c.is_used.ensures
    c.if-is_used.true c.stored_count-k.ensures
    c.if-k-gt-MOST_PARTS.false (rw c.record_in-r.ensures at c.holds_alone.ensures)
    c.if-not-holds_alone.true

pub pairs_fit-requires : goal.pairs_fit-requires
pairs_fit-requires c = alone-times _ _ _ c.holds_alone.ensures c.if-not-holds_alone.false

pub returns-then-is_used : goal.returns-then-is_used
returns-then-is_used c = rw (
  c.zeros_at-then-is_used.ensures,
  c.zeros_at.ensures,
  c.choose.ensures,
  c.pairs_fit.ensures,
  c.pairs_of.ensures,
  c.is_levelled.ensures,
  c.record_in-r.ensures,
)
    (asked-pairs _ _ _ c.is_used.ensures c.if-is_used.true c.stored_count-k.ensures c.if-k-gt-MOST_PARTS.false (rw c.record_in-r.ensures at c.holds_alone.ensures) c.if-not-holds_alone.false)

pub returns : goal.returns
returns c = c.all_zero.ensures
    ∙ sym (free-slot _ _ _ c.is_used.ensures c.if-is_used.false (omega arith))
