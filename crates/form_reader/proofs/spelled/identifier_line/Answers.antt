use Rattle.std.proofs.Common.{arith, refl, ap, length, ◌+◌, ◌∙◌}
use Rattle.fields.specs.Ascii.{ascii}
use Rattle.forms.specs.Values.{line, hex_text}
use Rattle.form_reader.proofs.Standing.{told_fetched}
use Rattle.form_reader.proofs.SpelledBytes.{bytes_fetched, identifier_length}
use Rattle.form_reader.proofs.spelled.identifier_line.Goals as goal

pub returns-in-Some-clause-read : goal.returns-in-Some-clause-read
returns-in-Some-clause-read c =
    c.identifier_line_at.ensures.read ∙ bytes_fetched c.args.s.now c.args.at 44 11 (c.args.at + 11) c.in-Some.ensures.bytes refl 0 16 (omega arith)

pub returns-in-Some-clause-spelled : goal.returns-in-Some-clause-spelled
returns-in-Some-clause-spelled c =
    let found = c.in-Some.ensures in
    let line_at = c.identifier_line_at in
    let long = ap (λ b. length (line (ascii "identifier=") (hex_text b))) line_at.ensures.read ∙ identifier_length c.in-Some.fetched.now 11 in
    told_fetched (line (ascii "identifier=") (hex_text line_at.result.0)) c.args.s.now c.in-Some.fetched.now c.args.at 44 found.bytes
    (found.there.0 refl) long line_at.ensures.spelled.told
