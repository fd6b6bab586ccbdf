use Rattle.rules.proofs.Refusals.{refusals}
use Rattle.rules.proofs.refusals_change_nothing.Goals as goal

pub returns : goal.returns
returns c = refusals
