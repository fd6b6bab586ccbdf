use Rattle.texts.proofs.Laid.{Laid}
use Rattle.texts.proofs.lay_digits.Given as goal

abbrev pub invariant-loop-rest : goal.invariant-loop-rest
invariant-loop-rest l = Laid l.fn.n l.rest l.at l.digits

abbrev pub decreases-loop-rest : goal.decreases-loop-rest
decreases-loop-rest l = l.rest
