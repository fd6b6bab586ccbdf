use Prim.Native.Nat.{◌-◌}
use Rattle.levels.specs.Pairs.{pairs_of}
use Rattle.levels.proofs.Gathered.{PairsGathered}
use Rattle.levels.proofs.Source.gather.Given as goal

abbrev pub invariant-loop-j : goal.invariant-loop-j
invariant-loop-j g l =
    PairsGathered (goal.F-post g l.with_pair) (pairs_of l.self) l.fn.lane.count l.initial.from l.fn.seen l.j l.from l.gathered

abbrev pub decreases-loop-j : goal.decreases-loop-j
decreases-loop-j g l = l.fn.lane.count - l.j
