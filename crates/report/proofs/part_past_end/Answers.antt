use Rattle.report.proofs.Padded.{part-copied}
use Rattle.report.proofs.part_past_end.Goals as goal

pub returns : goal.returns
returns c = part-copied _ _ c.bytes_at.ensures c.part_in.ensures
