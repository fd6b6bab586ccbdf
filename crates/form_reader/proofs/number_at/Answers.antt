use Rattle.std.proofs.Common.{arith}
use Rattle.form_reader.proofs.Scanned.{scanned_none, scanned_more, scanned_all, scanned_most}
use Rattle.form_reader.proofs.number_at.Goals as goal

pub loop-j-init : goal.loop-j-init
loop-j-init c = scanned_none _ _

pub returns-then-not-is_ascii_digit-clause-read : goal.returns-then-not-is_ascii_digit-clause-read
returns-then-not-is_ascii_digit-clause-read c =
    scanned_all c.loop-j.invariant c.loop-j-test.true c.u8_at-c.ensures c.is_ascii_digit.ensures.value c.if-not-is_ascii_digit.true

pub loop-j-preserved : goal.loop-j-preserved
loop-j-preserved c =
    rw c.from.ensures (scanned_more c.loop-j.invariant c.loop-j-test.true c.u8_at-c.ensures c.is_ascii_digit.ensures.value c.if-not-is_ascii_digit.false)

pub returns-clause-read : goal.returns-clause-read
returns-clause-read c = scanned_most c.loop-j.invariant (omega arith)
