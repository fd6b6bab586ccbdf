use Rattle.std.proofs.Common.{refl}
use Rattle.form_reader.specs.Spelled.{date_text}
use Rattle.form_reader.proofs.Standing.{told_fetched}
use Rattle.form_reader.proofs.SpelledDates.{dates_length, dates_fetched}
use Rattle.form_reader.proofs.spelled.date_lines.Goals as goal

pub returns-in-Some-clause-read : goal.returns-in-Some-clause-read
returns-in-Some-clause-read c =
    let found = c.in-Some.ensures in
    dates_fetched c.args.s.now c.in-Some.fetched.now c.args.at found.bytes (found.there.0 refl) c.date_lines_at-spelled.ensures.read

pub returns-in-Some-clause-spelled : goal.returns-in-Some-clause-spelled
returns-in-Some-clause-spelled c =
    let found = c.in-Some.ensures in
    let lines = c.date_lines_at-spelled in
    let m = lines.result.0 in
    told_fetched (date_text m) c.args.s.now c.in-Some.fetched.now c.args.at 67 found.bytes (found.there.0 refl)
    (dates_length m.stamp m.period.start m.period.end) lines.ensures.spelled.told
