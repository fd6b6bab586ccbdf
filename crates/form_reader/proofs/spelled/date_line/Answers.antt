use Rattle.std.proofs.Common.{arith, ◌≡◌, ◌+◌, sym}
use Rattle.calendar.specs.Reading.{print_of}
use Rattle.form_reader.proofs.Standing.{line_told}
use Rattle.form_reader.proofs.spelled.date_line.Goals as goal

pub returns-clause-spelled : goal.returns-clause-spelled
returns-clause-spelled g c =
    let long = sym c.told-name in
    let next : c.args.at + g.row.N + 16 + 1 ≡ c.args.at + g.row.N + 17 = omega arith in
    rw (c.told-name, next) at
    (line_told c.args.name.now (print_of c.date-spelled.result.0) c.args.s.now c.args.at c.stands.ensures (rw long at c.date-spelled.ensures.spelled)
    (rw long at c.u8_at-stops.ensures))
