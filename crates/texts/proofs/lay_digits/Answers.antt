use Rattle.texts.proofs.Laid.{laid_more}
use Rattle.texts.proofs.lay_digits.Goals as goal

pub loop-rest-preserved : goal.loop-rest-preserved
loop-rest-preserved c = laid_more c.loop-rest.at c.loop-rest.invariant c.loop-rest-test.true c.digit.ensures
