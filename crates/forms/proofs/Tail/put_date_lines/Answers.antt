use Rattle.forms.specs.Form.{date_lines}
use Rattle.forms.proofs.Putting.{ahead}
use Rattle.forms.proofs.Tail.put_date_lines.Goals as goal

pub returns : goal.returns
unfolding date_lines
returns c = ahead (ahead c.put_date_line-3.ensures c.put_date_line-2.ensures) c.put_date_line.ensures
