-- "The questions, in order; the first "no" is the refusal": reports to which two questions say no.
use Rattle.std.specs.Prelude.{List, [], ◌∷◌, ◌++◌, Bool}
use Rattle.rules.specs.Codes.{positive_derating, executed, R}
use Rattle.rules.specs.Samples.{part_of, ◌but◌, direction, mark, ordinal, identifier, stamp, created, levelled, planned_stop, begun_stop, event_at, slot_of}
use Rattle.rules.specs.Boundaries.Tests.{unit_w, row, positive, forced, held, changed, withdrawn, gives, names}
use Rattle.rules.specs.Boundaries.Limits.{crowded}

abbrev pub first_no : List Bool
first_no =
    -- 4 and 5, 5 and 6, 6 and 7, 7 and 8, 8 and 9, 9 and 10
    gives 4 unit_w (positive 20000 but direction 2 but ordinal 0)
    ∷ gives 5 unit_w (planned_stop 1 30 30 but direction 2)
    ∷ gives 6 unit_w (planned_stop 1 31 31)
    ∷ gives 7 unit_w (created positive_derating 15 31 [])
    ∷ names 1 unit_w (created positive_derating 15 45 (part_of 15 30 100000000 ∷ []))
    ∷ gives 9 unit_w (positive 100000000 but stamp 9)
    -- 10 and 11, 10 and 12, 11 and 15, 12 and 15
    ∷ gives 10 (unit_w ++ slot_of (positive 20000)) (positive 20000 but stamp 9)
    ∷ gives 10 unit_w (changed (positive 20000) but stamp 9)
    ∷ gives 11 (unit_w ++ slot_of (positive 20000)) (positive 20000)
    ∷ gives 12 (unit_w ++ held (positive 20000)) (changed (positive 20000))
    -- 13 and 14, 14 and 15, 15 and 16, 16 and 17, 17 and 19
    ∷ gives 13 (unit_w ++ slot_of (begun_stop 1 5 30)) (changed (begun_stop 2 6 30))
    ∷ gives 14
    (unit_w ++ slot_of (levelled positive_derating 5 30 0 but mark executed) ++ held (levelled positive_derating 30 45 0))
    (changed (levelled positive_derating 6 45 20000 but mark executed))
    ∷ gives 15 (unit_w ++ held (positive 20000)) (positive 200001)
    ∷ gives 16 (unit_w ++ held (forced 100000)) (positive 200001)
    ∷ gives 17 (unit_w ++ crowded) (forced 180001)
    -- 15 and 18, 18 and 19
    ∷ gives 15 (unit_w but row R 1 5 ++ held (planned_stop 1 15 30)) (begun_stop 1 5 30)
    ∷ gives 18 (unit_w but row R 1 5 ++ crowded) (begun_stop 1 5 30 but identifier 1)
    ∷ []

-- "A withdrawal skips 6, 7, 9 and 15–19; an event skips 9, 11–17 and 19."
abbrev pub skips : List Bool
skips =
    gives 0 (unit_w ++ slot_of (positive 20000)) (withdrawn positive_derating 30 30)
    ∷ gives 0 (unit_w ++ slot_of (positive 20000)) (withdrawn positive_derating 15 9)
    ∷ gives 0 (unit_w ++ slot_of (positive 20000)) (withdrawn positive_derating 16 31)
    ∷ gives 6 (unit_w ++ slot_of (positive 20000)) (changed (levelled positive_derating 30 30 20000))
    ∷ gives 7 (unit_w ++ slot_of (positive 20000)) (changed (levelled positive_derating 15 31 20000))
    ∷ gives 0 (unit_w ++ slot_of (positive 20000) ++ held (levelled positive_derating 45 60 0)) (withdrawn positive_derating 45 60)
    ∷ gives 0 (unit_w ++ slot_of (positive 20000) ++ held (forced 180001)) (withdrawn positive_derating 15 30)
    ∷ gives 0 (unit_w ++ crowded) (withdrawn positive_derating 15 30 but identifier 2)
    ∷ gives 0 (unit_w ++ slot_of (positive 20000 but identifier 0)) (event_at 5 10)
    ∷ gives 0 (unit_w ++ crowded) (event_at 5 10)
    ∷ gives 7 unit_w (planned_stop 1 16 30)
    ∷ []
