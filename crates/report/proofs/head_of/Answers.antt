use Rattle.report.proofs.Padded.{head-copied}
use Rattle.report.proofs.head_of.Goals as goal

pub returns : goal.returns
returns c = head-copied _ c.bytes_at-head.ensures c.bytes_at-identifier.ensures c.minute_at-stamp.ensures c.period_at-period.ensures c.u16_at.ensures c.u16_at-2.ensures c.u16_at-3.ensures c.u16_at-4.ensures c.u16_at-5.ensures
