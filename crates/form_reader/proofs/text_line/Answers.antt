use Rattle.form_reader.proofs.SpelledRest.{text_told}
use Rattle.form_reader.proofs.text_line.Goals as goal

pub returns-clause-told : goal.returns-clause-told
returns-clause-told c =
    text_told c.args.s.now c.args.at c.stands.ensures c.text_length_in-t.ensures.read (rw c.from.ensures at c.u8_at-stop.ensures)
