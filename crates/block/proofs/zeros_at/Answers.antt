use mathlib.Core.Path.{◌∙◌}
use Rattle.block.proofs.Cut.{zeros-part}
use Rattle.block.proofs.zeros_at.Goals as goal

pub returns : goal.returns
returns c = c.all_zero.ensures ∙ zeros-part _ _ _ c.slice_at.ensures
