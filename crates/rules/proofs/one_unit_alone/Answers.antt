use Rattle.rules.proofs.OneUnitAlone.{one-unit-alone}
use Rattle.rules.proofs.one_unit_alone.Goals as goal

pub returns : goal.returns
returns c = one-unit-alone
