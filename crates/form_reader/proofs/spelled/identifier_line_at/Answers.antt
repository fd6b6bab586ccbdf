use Rattle.std.proofs.Common.{arith, ◌≡◌, ◌+◌}
use Rattle.fields.specs.Ascii.{ascii}
use Rattle.forms.specs.Values.{hex_text}
use Rattle.form_reader.proofs.Standing.{line_told}
use Rattle.form_reader.proofs.spelled.identifier_line_at.Goals as goal

pub returns-clause-spelled : goal.returns-clause-spelled
returns-clause-spelled c =
    let next : c.args.at + 11 + 32 + 1 ≡ c.args.at + 44 = omega arith in
    rw next at
    (line_told (ascii "identifier=") (hex_text c.identifier-spelled.result.0) c.args.s.now c.args.at c.stands.ensures
    c.identifier-spelled.ensures.spelled c.u8_at-stops.ensures)
