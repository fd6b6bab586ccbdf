use native.Mathlib.Omega.{arith}
use Rattle.levels.proofs.Spans.{less, sooner}
use Rattle.levels.proofs.Parts.{held_place, held-step, held-last}
use Rattle.levels.proofs.Source.held_until.Goals as goal

pub overflow_sub-lane : goal.overflow_sub-lane
overflow_sub-lane c =
    let place = held_place _ c.requires.has_level c.requires.stepped in
    omega arith

pub returns-then-lt : goal.returns-then-lt
returns-then-lt c = held-last _ c.requires.has_level c.requires.stepped c.pair.ensures (less _ _ c.lt.ensures c.if-lt.true)
    (sooner _ _ c.min.ensures)

pub returns : goal.returns
returns c = held-step _ c.requires.has_level c.requires.stepped
