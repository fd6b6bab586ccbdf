use Rattle.std.proofs.Common.{refl, sym, ◌∙◌}
use Rattle.texts.specs.Numerals.{decimal}
use Rattle.form_reader.proofs.SpelledNumbers.{OneDigitLine, line_of_digit, named_told}
use Rattle.form_reader.proofs.spelled.number_line.Given as given
use Rattle.form_reader.proofs.spelled.number_line.Goals as goal

one : (g : given.Over) (c : goal.After-from g)
    → OneDigitLine c.args.name.now c.args.s.now c.args.at c.args.limit g.row.N c.from.result
one g c =
    let found = c.in-Some.ensures in
    let r = c.requires in
    line_of_digit c.args.name.now c.args.s.now c.in-Some.line.now c.args.at c.args.limit g.row.N c.told-name r.2 r.3 found.bytes
    (found.there.0 refl) (sym c.has_one_digit.ensures ∙ c.if-has_one_digit.true) (c.from.ensures ∙ c.saturating_sub.ensures)

pub returns-then-has_one_digit-clause-read : goal.returns-then-has_one_digit-clause-read
returns-then-has_one_digit-clause-read g c = (one g c).read

pub returns-then-has_one_digit-clause-spelled : goal.returns-then-has_one_digit-clause-spelled
returns-then-has_one_digit-clause-spelled g c = (one g c).told

pub returns-clause-spelled : goal.returns-clause-spelled
returns-clause-spelled g c =
    named_told c.args.name.now (decimal _) c.args.s.now c.args.at c.stands.ensures (rw (sym c.told-name) at c.digits-spelled.ensures.spelled)
