use Rattle.std.proofs.Common.{arith}
use Rattle.form_reader.proofs.Words.{two_runs}
use Rattle.form_reader.proofs.spelled.same.Goals as goal

pub returns-then-n-ge8 : goal.returns-then-n-ge8
returns-then-n-ge8 c =
    two_runs c.args.a.now c.args.b.now 8 c.requires.0 c.if-n-ge8.true (omega arith) c.same_8.ensures c.same_8-then-n-ge8.ensures

pub returns-else-n-ge8 : goal.returns-else-n-ge8
returns-else-n-ge8 c =
    two_runs c.args.a.now c.args.b.now 4 c.requires.0 c.requires.1 (omega arith) c.same_4.ensures c.same_4-else-n-ge8.ensures
