use Rattle.std.proofs.Common.{rules}
use Rattle.fields.specs.Lists.{pick}
use Rattle.rules.specs.Codes.{forced_work}
use Rattle.levels.proofs.Asked.{lanes-asked}
use Rattle.levels.proofs.Lanes.asked_of.Goals as goal

pub returns : goal.returns
unfolding pick
returns g c = lanes-asked _ forced_work _ (λ p. goal.F-post g c.args.passes p) (λ h from p r s. search rules) _ _ c.gather.ensures
