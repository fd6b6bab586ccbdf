use mathlib.Core.Path.{◌∙◌}
use Rattle.fields.proofs.Tests.{series-length}
use Rattle.report.proofs.no_parts.Goals as goal

pub returns : goal.returns
returns c = c.covered_or.ensures ∙ rw (c.u16_at.ensures, series-length)
