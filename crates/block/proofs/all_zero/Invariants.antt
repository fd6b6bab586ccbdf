use Rattle.std.proofs.Common.{◌≡◌, ◌*◌}
use Rattle.rules.specs.Block.{zeros_at}
use Rattle.block.specs.Slot.{stretch_size}
use Rattle.block.proofs.all_zero.Given as goal

abbrev pub invariant-loop-stretch : goal.invariant-loop-stretch
invariant-loop-stretch l = l.ok ≡ zeros_at l.z 0 (stretch_size * l.stretch-index)
