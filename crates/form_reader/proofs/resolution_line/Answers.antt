use Rattle.form_reader.proofs.SpelledRest.{no_resolution}
use Rattle.form_reader.proofs.resolution_line.Goals as goal

pub returns-clause-told : goal.returns-clause-told
returns-clause-told c = no_resolution 1 c.u8_at.ensures c.if-u8_at-eq114.false
