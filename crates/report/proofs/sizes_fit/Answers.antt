use Rattle.report.specs.Report.{sized}
use Rattle.report.proofs.sizes_fit.Goals as goal

pub returns : goal.returns
unfolding sized
returns c = rw (c.text_after.ensures.0, c.u16_at-count.ensures, c.u16_at-text.ensures)
