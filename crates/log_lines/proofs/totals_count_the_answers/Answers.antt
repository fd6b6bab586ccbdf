use Rattle.log_lines.proofs.Counts.{log-of-list}
use Rattle.log_lines.proofs.totals_count_the_answers.Goals as goal

pub returns : goal.returns
returns c = log-of-list
