use Rattle.calendar.proofs.Reading.{text-printed, minute-back, prints-apart, refused, refused-only}
use Rattle.calendar.proofs.dates_are_read_back.Goals as goal

pub returns : goal.returns
returns c = record {
  text = text-printed;
  minute = minute-back;
  apart = prints-apart;
  refused = refused;
  only = refused-only;
}
