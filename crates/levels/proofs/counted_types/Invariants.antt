use Prim.Native.Nat.{◌-◌}
use Rattle.rules.specs.Block.{slot_count}
use Rattle.rules.specs.Codes.{positive_derating, negative_derating, forced_work}
use Rattle.levels.proofs.Unforced.{SomeUpTo}
use Rattle.levels.proofs.counted_types.Given as goal

abbrev pub invariant-loop-i : goal.invariant-loop-i
invariant-loop-i l = record {
  forced : SomeUpTo l.b l.counted forced_work l.types.forced l.i;
  positive : SomeUpTo l.b l.counted positive_derating l.types.positive l.i;
  negative : SomeUpTo l.b l.counted negative_derating l.types.negative l.i;
}

abbrev pub decreases-loop-i : goal.decreases-loop-i
decreases-loop-i l = slot_count - l.i
