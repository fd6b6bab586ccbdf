use Rattle.forms.specs.Form.{code_lines}
use Rattle.forms.proofs.Putting.{ahead}
use Rattle.forms.proofs.Tail.put_code_lines.Goals as goal

pub returns : goal.returns
unfolding code_lines
returns c =
    let three = ahead (ahead c.put_number_line-5.ensures c.put_number_line-4.ensures) c.put_number_line-3.ensures in
    ahead (ahead three c.put_number_line-2.ensures) c.put_number_line.ensures
