use Rattle.block.proofs.FreeSlots.{Apart}
use Rattle.block.proofs.slots_apart.Given as goal

abbrev pub invariant-loop-i : goal.invariant-loop-i
invariant-loop-i l = Apart l.slots l.ok l.i
