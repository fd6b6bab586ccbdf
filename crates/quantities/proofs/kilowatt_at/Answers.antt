use Rattle.quantities.proofs.kilowatt_at.Goals as goal

pub returns : goal.returns
returns c = cc
