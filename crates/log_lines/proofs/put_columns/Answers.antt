use Rattle.std.proofs.Common.{ap}
use Rattle.reader.specs.declared.LineHead.{LineHead}
use Rattle.log_lines.specs.Log.{line_text}
use Rattle.texts.proofs.Texts.{then}
use Rattle.log_lines.proofs.put_columns.Goals as goal

pub returns : goal.returns
unfolding line_text
returns c =
    let unit = rw (ap (λ (h : LineHead). h.unit) c.line_head-h.ensures) at c.put_unit.ensures in
    let stamp = rw (ap (λ (h : LineHead). h.stamp) c.line_head-h.ensures) at c.put_stamp.ensures in
    let numbered = then (then (then c.put_number.ensures unit) c.put_number-2.ensures) c.put_number-3.ensures in
    then (then numbered c.put_number-4.ensures) stamp
