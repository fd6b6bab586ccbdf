use Rattle.form_reader.proofs.SpelledNumbers.{digits_told}
use Rattle.form_reader.proofs.spelled.digits.Goals as goal

pub returns-clause-spelled : goal.returns-clause-spelled
returns-clause-spelled c =
    digits_told _ _ _ c.requires.1 c.requires.2 c.number_at-n.ensures.read c.u8_at.ensures c.is_plain.ensures c.u8_at-2.ensures
