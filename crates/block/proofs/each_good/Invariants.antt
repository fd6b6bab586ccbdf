use Rattle.std.proofs.Common.{length, get_or, ◌+◌, []}
use mathlib.Core.Bool.{true}
use Rattle.fields.proofs.Tests.{Tested}
use Rattle.block.proofs.each_good.Given as goal

abbrev pub invariant-loop-i : goal.invariant-loop-i
invariant-loop-i g l = Tested (λ i. g.P.Pieces.good (i + 1) (get_or l.pieces i [])) (λ i. i) (length l.pieces) true l.i
