use Rattle.std.proofs.Common.{rules, arith}
use Rattle.forms.proofs.Putting.{all-put}
use Rattle.forms.proofs.put_form.Goals as goal

pub returns-clause-form : goal.returns-clause-form
returns-clause-form c = all-put (omega arith) c.put_lines.ensures (search rules)
