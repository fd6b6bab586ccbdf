use Rattle.texts.proofs.Texts.{then}
use Rattle.log_lines.proofs.put_escape.Goals as goal

pub returns : goal.returns
returns c = then c.put.ensures c.put_hex.ensures
