use Rattle.quantities.proofs.minute_at.Goals as goal

pub returns : goal.returns
returns c = cc
