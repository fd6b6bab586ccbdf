use Rattle.block.proofs.Pairs.{Risen}
use Rattle.block.proofs.pairs_rise.Given as goal

abbrev pub invariant-loop-bytes : goal.invariant-loop-bytes
invariant-loop-bytes l = Risen l.pairs l.fn.period.start.0 l.fn.period.end.0 l.ok l.bytes-index l.start.0
