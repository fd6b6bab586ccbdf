use Rattle.std.proofs.Common.{arith, ◌≡◌, ◌+◌}
use Rattle.form_reader.proofs.Standing.{told_then}
use Rattle.form_reader.proofs.spelled.date_lines_at.Goals as goal

pub returns-clause-spelled : goal.returns-clause-spelled
returns-clause-spelled c =
    let start : c.args.at + 6 + 17 ≡ c.args.at + 23 = omega arith in
    let end : c.args.at + 23 + 6 + 17 ≡ c.args.at + 46 = omega arith in
    let next : c.args.at + 46 + 4 + 17 ≡ c.args.at + 67 = omega arith in
    rw next at
    (told_then (told_then (rw start at c.date_line-a.ensures.spelled) (rw end at c.date_line-b.ensures.spelled)) c.date_line-c.ensures.spelled)
