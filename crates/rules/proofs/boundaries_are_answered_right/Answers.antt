use Rattle.rules.proofs.Boundaries.{boundaries-hold}
use Rattle.rules.proofs.boundaries_are_answered_right.Goals as goal

pub returns : goal.returns
returns c = boundaries-hold
