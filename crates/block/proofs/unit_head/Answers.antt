use Rattle.block.proofs.Padded.{head-copied}
use Rattle.block.proofs.unit_head.Goals as goal

pub returns : goal.returns
returns c = head-copied _ c.bytes_at-head.ensures
    c.minute_at-since.ensures
    c.minute_at-last_stamp.ensures
    c.powers_at-powers.ensures c.u16_at.ensures c.u16_at-2.ensures
