use Prim.Native.Nat.{◌-◌}
use Rattle.levels.specs.Lanes.{lane_levels, Placed}
use Rattle.levels.proofs.Turns.{Judged}
use Rattle.levels.proofs.Lanes.sweep_lanes.Given as goal

abbrev pub invariant-loop-m : goal.invariant-loop-m
invariant-loop-m l = Judged (lane_levels l.self) l.limits l.initial.m.0 l.end.0 l.m.0 l.g × Placed l.self l.places l.m.0

abbrev pub decreases-loop-m : goal.decreases-loop-m
decreases-loop-m l = l.end.0 - l.m.0
