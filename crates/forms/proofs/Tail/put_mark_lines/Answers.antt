use Rattle.forms.specs.Form.{mark_lines}
use Rattle.forms.proofs.Putting.{ahead}
use Rattle.forms.proofs.Tail.put_mark_lines.Goals as goal

pub returns : goal.returns
unfolding mark_lines
returns c =
    let three = ahead (ahead c.put_number_line-4.ensures c.put_number_line-3.ensures) c.put_number_line-2.ensures in
    ahead (ahead three c.put_number_line.ensures) c.put_identifier_line.ensures
