use Rattle.forms.proofs.Putting.{same_text, put-line}
use Rattle.forms.proofs.Tail.put_text_line.Goals as goal

pub returns : goal.returns
returns c = put-line c.put-3.ensures (same_text c.text_of.ensures.text c.text_of.ensures.bound c.put-2.ensures) c.put.ensures
