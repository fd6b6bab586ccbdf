use Rattle.std.proofs.Common.{arith, ap, length, ◌++◌}
use Rattle.fields.specs.Ascii.{ascii}
use Rattle.report.proofs.Remarks.{remark-short}
use Rattle.log_lines.specs.Remarks.{shown, standing_remark}
use Rattle.texts.proofs.Texts.{same_text}
use Rattle.log_lines.proofs.WithRemarksLines.put_column.Goals as goal

pub returns-in-Ok : goal.returns-in-Ok
returns-in-Ok c =
    let e = c.in-Ok.ensures.bytes in
    same_text (ap (λ bytes. ascii " | " ++ shown bytes) e)
    (omega (arith, ap length e, remark-short c.args.report.now standing_remark (omega arith))) c.put_shown.ensures

pub returns-in-Err : goal.returns-in-Err
returns-in-Err c =
    let e = c.in-Err.ensures.bytes in
    same_text (ap (λ bytes. ascii " | " ++ shown bytes) e)
    (omega (arith, ap length e, remark-short c.args.report.now standing_remark (omega arith))) c.put_shown-in-Err.ensures
