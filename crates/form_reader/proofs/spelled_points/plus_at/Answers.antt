use Rattle.form_reader.proofs.SpelledPowers.{plus_told}
use Rattle.form_reader.proofs.spelled_points.plus_at.Goals as goal

pub returns-clause-told : goal.returns-clause-told
returns-clause-told c =
    plus_told c.u8_at-2.ensures c.requires.1 c.number_at-n.ensures.read c.u8_at.ensures c.is_plain.ensures
