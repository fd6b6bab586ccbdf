use Rattle.calendar.proofs.Dates.{date-right, date-only}
use Rattle.calendar.proofs.month_and_day_are_right.Goals as goal

pub returns : goal.returns
returns c = record {
  right = date-right;
  only = date-only;
}
