use mathlib.Core.Path.{ap, ◌∙◌}
use Rattle.rules.specs.Questions.{record_by}
use Rattle.records.proofs.record_of.Goals as goal

pub returns : goal.returns
returns c = c.record_by.ensures ∙ ap record_by c.head_of.ensures
