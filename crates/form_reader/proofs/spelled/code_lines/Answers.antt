use Rattle.form_reader.proofs.Standing.{told_then}
use Rattle.form_reader.proofs.spelled.code_lines.Goals as goal

pub returns-clause-spelled : goal.returns-clause-spelled
returns-clause-spelled c =
    let four = told_then
    (told_then (told_then c.number_line-a.ensures.spelled c.number_line-b.ensures.spelled) c.number_line-c.ensures.spelled)
    c.number_line-d.ensures.spelled in
    told_then four c.number_line-e.ensures.spelled
