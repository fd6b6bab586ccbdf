use Prim.Native.Nat.{◌-◌}
use mathlib.Core.Path.{◌≡◌}
use Rattle.levels.specs.Lanes.{soonest}
use Rattle.levels.proofs.Stretches.{Along}
use Rattle.levels.proofs.Limits.sweep_chosen.Given as goal

abbrev pub invariant-loop-m : goal.invariant-loop-m
invariant-loop-m l =
    (l.end.0 ≡ soonest l.chosen l.fn.period.end) × Along l.chosen l.self l.initial.m.0 l.end.0 l.f l.p l.n l.m.0 l.found

abbrev pub decreases-loop-m : goal.decreases-loop-m
decreases-loop-m l = l.end.0 - l.m.0
