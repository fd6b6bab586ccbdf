use Rattle.log_lines.proofs.RosterA.{roster-a-log}
use Rattle.log_lines.proofs.roster_a_gets_its_log.Goals as goal

pub returns : goal.returns
returns c = roster-a-log
