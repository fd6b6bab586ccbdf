use Prim.Native.Nat.{◌-◌}
use Rattle.fields.proofs.Tests.{Tested}
use Rattle.block.specs.declared.Pair.{Pair}
use Rattle.block.specs.Slot.{pair_at}
use Rattle.levels.specs.Within.{power_within}
use Rattle.levels.proofs.Limits.pairs_within.Given as goal

abbrev pub invariant-loop-j : goal.invariant-loop-j
invariant-loop-j l = Tested (λ (p : Pair). power_within l.self p.power.0) (pair_at l.z) l.count l.ok l.j

abbrev pub decreases-loop-j : goal.decreases-loop-j
decreases-loop-j l = l.count - l.j
