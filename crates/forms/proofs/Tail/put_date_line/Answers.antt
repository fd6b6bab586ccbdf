use Rattle.std.proofs.Common.{arith, ap, length, ◌∙◌, sym}
use Rattle.forms.proofs.Putting.{same_text, put-line, printed, not-refused}
use Rattle.forms.proofs.Tail.put_date_line.Goals as goal

pub returns-in-Ok : goal.returns-in-Ok
returns-in-Ok c =
    let e = printed c.args.m c.requires.time (sym c.in-Ok.is ∙ c.print_date.ensures) in
    put-line c.put-in-Ok-2.ensures (same_text {n = 16} e (omega (arith, ap length e)) c.put-in-Ok.ensures) c.put.ensures

pub returns-in_default : goal.returns-in_default
returns-in_default c = absurd (not-refused c.args.m c.requires.time (sym c.in_default.is ∙ c.print_date.ensures))
