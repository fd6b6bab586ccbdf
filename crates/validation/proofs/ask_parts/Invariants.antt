use Prim.Native.Nat.{◌-◌}
use Rattle.validation.proofs.Joins.{PassedOver}
use Rattle.validation.proofs.ask_parts.Given as goal

abbrev pub invariant-loop-i : goal.invariant-loop-i
invariant-loop-i l =
    PassedOver l.report l.stamp l.range l.record_type.0 l.k l.times l.on_quarters l.powers l.largest l.i

abbrev pub decreases-loop-i : goal.decreases-loop-i
decreases-loop-i l = l.k - l.i
