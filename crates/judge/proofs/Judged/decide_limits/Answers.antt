use native.Mathlib.Omega.{arith}
use Rattle.std.proofs.Common.{rules, tests}
use Rattle.std.proofs.lemmas.Iterator.{YieldsList-from_slice}
use Rattle.std.proofs.lemmas.Iterator.Search.{any_from_yields_List}
use Rattle.judge.proofs.Joins.{made-map}
use Rattle.judge.proofs.Judged.decide_limits.Goals as goal

pub returns : goal.returns
returns c =
    let slots = c.survey_slots-slots.result in
    let cleared = made-map slots (λ a. a.cleared) 8 (omega arith) c.map.ensures.items (λ p q x y called. search rules) in
    let left = any_from_yields_List (λ a. a.leaves) _ _ c.any.result c.any.ensures.ran (YieldsList-from_slice slots (cc)) (λ x b q k. search (rules, tests)) in
    rw (cleared, left, c.slot_written.ensures, c.free_slot.ensures, ← c.survey_slots-slots.ensures, ← c.ask_limits.ensures, c.in_ok-ask_limits.was)
