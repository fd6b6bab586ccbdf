use Rattle.forms.proofs.Putting.{Counting}
use Rattle.forms.proofs.Tail.put_decimal.Given as goal

abbrev pub invariant-loop-left : goal.invariant-loop-left
invariant-loop-left l = Counting l.fn.self l.n l.left l.self

abbrev pub decreases-loop-left : goal.decreases-loop-left
decreases-loop-left l = l.left
