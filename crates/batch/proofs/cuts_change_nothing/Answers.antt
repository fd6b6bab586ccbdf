use Rattle.batch.proofs.Cuts.{cuts}
use Rattle.batch.proofs.cuts_change_nothing.Goals as goal

pub returns : goal.returns
returns c = λ register input cut most more. cuts more most register input cut
