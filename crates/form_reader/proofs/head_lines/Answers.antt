use Rattle.form_reader.proofs.Standing.{told_then}
use Rattle.form_reader.proofs.SpelledHead.{neither, codes_not_told, marks_not_told, dates_not_told}
use Rattle.form_reader.proofs.head_lines.Goals as goal

pub returns-then-not-a-lax : goal.returns-then-not-a-lax
returns-then-not-a-lax c =
    let codes = c.code_lines-a.ensures in
    let no = neither c.if-not-a-lax.true in
    (no.1, codes_not_told c.args.s.now codes.read codes.spelled no.0)

pub returns-then-not-a-b : goal.returns-then-not-a-b
returns-then-not-a-b c =
    let codes = c.code_lines-a.ensures in
    let marks = c.mark_lines-b.ensures in
    let no = neither c.if-not-a-b.true in
    (no.1, marks_not_told c.args.s.now codes.read marks.read (told_then codes.spelled marks.spelled) no.0)

pub returns-then-not-a-b-2 : goal.returns-then-not-a-b-2
returns-then-not-a-b-2 c =
    let codes = c.code_lines-a.ensures in
    let marks = c.mark_lines-b.ensures in
    let dates = c.date_lines-c.ensures in
    let no = neither c.if-not-a-b-2.true in
    (no.1, dates_not_told c.args.s.now codes.read marks.read dates.read (told_then (told_then codes.spelled marks.spelled) dates.spelled) no.0)

pub returns : goal.returns
returns c =
    let codes = c.code_lines-a.ensures in
    let marks = c.mark_lines-b.ensures in
    let dates = c.date_lines-c.ensures in
    record {
      codes = codes.read;
      marks = marks.read;
      dates = dates.read;
      told = told_then (told_then codes.spelled marks.spelled) dates.spelled;
      near = dates.bounds;
    }
