use Rattle.forms.proofs.Coarsest.{coarsest_of}
use Rattle.forms.proofs.resolution_is_the_coarsest.Goals as goal

pub returns : goal.returns
returns c = coarsest_of
