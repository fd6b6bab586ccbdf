use Rattle.form_reader.proofs.SpelledPowers.{minus_told}
use Rattle.form_reader.proofs.spelled_points.minus_at.Goals as goal

pub returns-clause-told : goal.returns-clause-told
returns-clause-told c =
    minus_told c.u8_at-2.ensures c.requires.1 c.number_at-n.ensures.read c.u8_at.ensures c.is_plain.ensures c.opposite.ensures
