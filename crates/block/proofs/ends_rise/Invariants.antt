use mir.Syntax.{w32}
use mir.Val.{of_z}
use Rattle.block.proofs.Ends.{EndsRisen}
use Rattle.block.proofs.ends_rise.Given as goal

abbrev pub invariant-loop-bytes : goal.invariant-loop-bytes
invariant-loop-bytes l = EndsRisen l.pairs l.fn.period.start.0 l.fn.period.end.0 l.rise l.bound (of_z w32 l.start) l.bytes-index
