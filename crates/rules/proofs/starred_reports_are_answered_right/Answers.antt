use Rattle.rules.proofs.Worked.{starred-right}
use Rattle.rules.proofs.starred_reports_are_answered_right.Goals as goal

pub returns : goal.returns
returns c = starred-right
