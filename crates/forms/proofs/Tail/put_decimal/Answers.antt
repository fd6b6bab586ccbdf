use Rattle.std.proofs.Common.{arith}
use Rattle.forms.proofs.Putting.{count-none, count-more, count-ends}
use Rattle.forms.proofs.Tail.put_decimal.Goals as goal

pub loop-left-init : goal.loop-left-init
loop-left-init c = count-none (omega arith)

pub loop-left-preserved : goal.loop-left-preserved
loop-left-preserved c = count-more c.loop-left-test.true c.digit.ensures c.loop-left.invariant c.put_byte.ensures

pub returns : goal.returns
returns c = count-ends c.args.n (omega arith) c.loop-left-test.false c.digit-2.ensures c.loop-left.invariant c.put_byte-2.ensures
