use Rattle.calendar.proofs.DateCases.{dates-read, texts-refused, room-is-asked}
use Rattle.calendar.proofs.worked_dates_are_answered_right.Goals as goal

pub returns : goal.returns
returns c = record {
  read = dates-read;
  refused = texts-refused;
  room = room-is-asked;
}
