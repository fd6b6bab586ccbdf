use Rattle.levels.specs.Lanes.{Placed}
use Rattle.levels.proofs.Choosing.{Looked}
use Rattle.levels.proofs.Lanes.choose_lane.Given as goal

abbrev pub invariant-loop-i : goal.invariant-loop-i
invariant-loop-i l = Looked l.self l.record_type.0 l.i l.m.0 l.until.0 × Placed l.self l.places l.m.0
