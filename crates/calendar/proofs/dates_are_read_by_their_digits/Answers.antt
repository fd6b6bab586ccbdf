use Rattle.calendar.proofs.Reading.{by_digits}
use Rattle.calendar.proofs.dates_are_read_by_their_digits.Goals as goal

pub returns : goal.returns
returns c = by_digits
