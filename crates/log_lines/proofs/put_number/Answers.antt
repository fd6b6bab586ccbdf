use Rattle.texts.proofs.Texts.{then}
use Rattle.log_lines.proofs.put_number.Goals as goal

pub returns : goal.returns
returns c = then c.put_decimal.ensures c.put.ensures
