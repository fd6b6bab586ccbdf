-- The definition's log of roster A's input is the one that paper 01 prints. Assumes nothing.
use native.Mathlib.Omega.{arith}
use mathlib.Core.Path.{◌≡◌, refl, sym}
use mathlib.Core.Bool.{true, ◌&&◌, false≢true}
use mathlib.Core.List.{List, [], ◌∷◌, ◌++◌}
use lib.Dec.{eqb}
use lib.ListN.{length, take, drop}
use borrow.Author.Tests.{eqb-true}
use Rattle.fields.specs.Fields.{uint_at, bytes_of}
use Rattle.fields.specs.Lists.{pick, and_each, every, all, series, put}
use Rattle.fields.proofs.Bools.{and_left, and_right}
use Rattle.report.specs.Report.{sized, marked, whole}
use Rattle.report.specs.Encoded.{encode_head, encode_parts, encode_report}
use Rattle.rules.specs.declared.Answer.{Answer}
use Rattle.rules.specs.Block.{zeros}
use Rattle.rules.specs.Cases.{Expected, roster_a, same_answers, right, logged_reports, logged}
use Rattle.rules.specs.Samples.{entry_bytes}
use Rattle.rules.specs.Desk.{new_register, set_up, answers}
use Rattle.rules.proofs.Worked.{good, logged-right}
use Rattle.calendar.specs.Calendar.{days_in, month_start, month_of, date_of, date_text}
use Rattle.calendar.proofs.MonthSums.{month-here}
use Rattle.texts.specs.Numerals.{decimal_before}
use Rattle.log_lines.specs.Log.{log_header, unit_text, stamp_text, line_text, count_of, totals_of, totals_line}
use Rattle.log_lines.specs.Run.{entries_read, stated_length, reports_read, lines_of, shift_log}
use Rattle.log_lines.specs.RosterA.{one_after_other, stream_a, log_a}

expected_answers : List Expected → List Answer
expected_answers [] = []
expected_answers (e ∷ es) = record { number = e.number; warnings = e.warnings; part = e.part } ∷ expected_answers es

same-answers : (es : List Expected) (answered : List Answer) → same_answers es answered ≡ true → answered ≡ expected_answers es
unfolding same_answers expected_answers
same-answers [] [] p = refl
same-answers [] (a ∷ rest) p = absurd (false≢true p)
same-answers (e ∷ es) [] p = absurd (false≢true p)
same-answers (e ∷ es) (a ∷ rest) p =
    let same_number = eqb e.number a.number in
    let same-warnings = eqb e.warnings a.warnings in
    let same-part = eqb e.part a.part in
    let three = and_left (same_number && same-warnings && same-part) (same_answers es rest) p in
    let two = and_left (same_number && same-warnings) same-part three in
    rw (
      eqb-true e.number a.number (and_left same_number same-warnings two),
      eqb-true e.warnings a.warnings (and_right same_number same-warnings two),
      eqb-true e.part a.part (and_right (same_number && same-warnings) same-part three),
      same-answers es rest (and_right (same_number && same-warnings && same-part) (same_answers es rest) p),
    )

answered : answers (new_register roster_a) logged_reports ≡ expected_answers logged.expected
unfolding right
answered = same-answers logged.expected (answers (new_register roster_a) logged_reports) logged-right

two-entries : entries_read 8 stream_a ≡ 2
unfolding entries_read pick uint_at stream_a roster_a bytes_of one_after_other put entry_bytes encode_head encode_report
two-entries = refl

set-up : set_up roster_a (zeros 14336) ≡ record { number = 0; after = new_register roster_a }
unfolding set_up pick roster_a entry_bytes bytes_of zeros
set-up = rw good

roster : take 56 stream_a ≡ roster_a
unfolding stream_a roster_a bytes_of one_after_other put entry_bytes encode_head encode_report
roster = refl

reports : reports_read (length stream_a) (drop 56 stream_a) ≡ logged_reports
unfolding reports_read stated_length pick and_each every all series uint_at sized marked whole stream_a roster_a bytes_of one_after_other put entry_bytes encode_head encode_parts encode_report
reports = refl

march : month_of 9556 ≡ 314
unfolding month_start days_in pick
march = sym (month-here {day = 9556} {n = 314} {s = 9556} refl refl (omega arith))

lines : log_header ++ (lines_of 1 logged_reports (expected_answers logged.expected) ++ totals_line
    (totals_of (expected_answers logged.expected))) ≡ log_a
unfolding lines_of line_text unit_text stamp_text totals_line date_of date_text decimal_before month_start days_in pick expected_answers
    count_of uint_at bytes_of put encode_head encode_parts encode_report
lines = rw march

pub roster-a-log : shift_log stream_a ≡ log_a
unfolding shift_log pick
roster-a-log = rw (two-entries, roster, set-up, reports, answered) lines
