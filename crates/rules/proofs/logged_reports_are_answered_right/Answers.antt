use Rattle.rules.proofs.Worked.{logged-right}
use Rattle.rules.proofs.logged_reports_are_answered_right.Goals as goal

pub returns : goal.returns
returns c = logged-right
