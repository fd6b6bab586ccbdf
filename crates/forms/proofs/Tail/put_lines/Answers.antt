use Rattle.std.proofs.Common.{arith, refl}
use Rattle.forms.specs.Form.{form_at}
use Rattle.forms.proofs.Formed.{formed}
use Rattle.forms.proofs.Putting.{ahead, same_text}
use Rattle.forms.proofs.Tail.put_lines.Goals as goal

pub put_text_line-requires : goal.put_text_line-requires
put_text_line-requires c = record { whole = (formed c.args.report.now c.requires.form).whole_so; place = (omega arith, omega arith) }

pub put_part_lines-requires : goal.put_part_lines-requires
put_part_lines-requires c = (omega arith, omega arith)

pub put_date_lines-requires : goal.put_date_lines-requires
put_date_lines-requires c =
    let f = formed c.args.report.now c.requires.form in
    record { times = rw c.head_of-h.ensures (f.stamp, f.start, f.end); place = (omega arith, omega arith) }

pub returns : goal.returns
unfolding form_at
returns c =
    let head = ahead (ahead c.put_code_lines.ensures c.put_mark_lines.ensures) c.put_date_lines.ensures in
    let parts = ahead head c.put_part_lines.ensures in
    same_text refl (omega arith) (ahead (rw c.head_of-h.ensures at parts) c.put_text_line.ensures)
