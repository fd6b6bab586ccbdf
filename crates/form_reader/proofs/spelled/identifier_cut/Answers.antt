use Rattle.std.proofs.Common.{arith, ◌∙◌}
use Rattle.form_reader.proofs.SpelledBytes.{bytes_fetched}
use Rattle.form_reader.proofs.spelled.identifier_cut.Goals as goal

pub returns : goal.returns
returns c = c.hex_bytes.ensures.read ∙ bytes_fetched c.args.s.now c.args.at 32 0 c.args.at c.bytes_at.ensures (omega arith) 0 16 (omega arith)
