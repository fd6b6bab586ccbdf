use Rattle.block.proofs.Padded.{record-copied}
use Rattle.block.proofs.record_in.Goals as goal

pub returns : goal.returns
returns c = record-copied _ c.bytes_at-slot.ensures
    c.bytes_at-identifier.ensures c.minute_at-stamp.ensures
    c.period_at-period.ensures c.u16_at.ensures
