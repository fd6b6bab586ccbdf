use Rattle.std.proofs.Common.{arith, add-zero}
use Rattle.fields.proofs.Numbers.{uint-copied}
use Rattle.quantities.proofs.period_at.Goals as goal

pub returns : goal.returns
returns c =
    let copied = c.bytes_at-period.ensures in
    rw (c.minute_at-start.ensures, c.minute_at-end.ensures, uint-copied 4 _ _ _ _ copied 0 (omega arith), uint-copied 4 _ _ _ _ copied 4 (omega arith), add-zero)
