use Rattle.rules.proofs.EarlyEnds.{accepted-exactly}
use Rattle.rules.proofs.early_end_is_accepted_by_its_rule.Goals as goal

pub returns : goal.returns
returns c = accepted-exactly
