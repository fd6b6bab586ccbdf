use Rattle.report.proofs.Padded.{part-copied}
use Rattle.report.proofs.part_at.Goals as goal

pub returns-in-Some : goal.returns-in-Some
returns-in-Some c = part-copied _ _ (c.in-Some.ensures.bytes) c.part_in.ensures
