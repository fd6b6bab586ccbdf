use Rattle.rules.proofs.EarlyEnds.{ended-early}
use Rattle.rules.proofs.early_end_leaves_its_slot.Goals as goal

pub returns : goal.returns
returns c = ended-early
