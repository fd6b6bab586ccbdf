-- 02, A2, "A derating that ended early": for each clause a report that just passes and one that just fails.
use Rattle.std.specs.Prelude.{ℕ, List, [], ◌∷◌, ◌++◌, Bool}
use Rattle.report.specs.declared.Part.{Part}
use Rattle.rules.specs.Codes.{stop, positive_derating, negative_derating, forced_work, off_grid, planned, executed, R, RP}
use Rattle.rules.specs.Samples.{part_of, ◌but◌, operation, direction, mark, with_end_mark, qualification, ordinal, identifier, stamp, start, end, created, levelled, begun_stop, event_at, slot_of}
use Rattle.rules.specs.Boundaries.Tests.{unit_w, unit_m, unit_z, unit_a, row, with_last_stamp, positive, off_grid_at, held, changed, withdrawn, gives, names, warns, becomes}
use Rattle.rules.specs.Boundaries.After.{freed}

-- a begun record from D+5 to D+30, and the slot that holds it
abbrev pub begun_for : ℕ → ℕ → List ℕ
begun_for type power = levelled type 5 30 power but mark executed

abbrev pub holding : ℕ → List ℕ
holding type = slot_of (begun_for type 20000)

abbrev pub running : List ℕ
running = unit_w ++ holding positive_derating

-- the change, at D+20, that ends a record of a type before its planned end
abbrev pub ended_in : ℕ → ℕ → List Part → List ℕ
ended_in type end parts = changed (created type 5 end parts) but mark executed but with_end_mark executed but stamp 20

abbrev pub ended : ℕ → ℕ → ℕ → List ℕ
ended type end power = ended_in type end (part_of 5 end power ∷ [])

abbrev pub ended_at : ℕ → List ℕ
ended_at end = ended positive_derating end 20000

-- 4. "end mark 2 on an event or a withdrawal is 4"; 0, 3 and above are no marks
abbrev pub marks : List Bool
marks =
    gives 0 running (ended_at 20)
    ∷ gives 4 running (ended_at 20 but with_end_mark 0)
    ∷ gives 4 running (ended_at 20 but with_end_mark 3)
    ∷ gives 4 running (ended_at 20 but with_end_mark 255)
    ∷ gives 6 running (ended_at 20 but with_end_mark planned)
    ∷ gives 0 running (changed (begun_for positive_derating 20000) but stamp 20)
    ∷ gives 0 unit_w (event_at 5 10)
    ∷ gives 4 unit_w (event_at 5 10 but with_end_mark executed)
    ∷ gives 0 (unit_w ++ slot_of (positive 20000)) (withdrawn positive_derating 15 30)
    ∷ gives 4 (unit_w ++ slot_of (positive 20000)) (withdrawn positive_derating 15 30 but with_end_mark executed)
    -- 4 before 5 before 6
    ∷ gives 4 unit_m (event_at 5 10 but with_end_mark executed)
    ∷ gives 5 running (ended_at 21 but direction 2)
    ∷ []

-- 6. "with start < end ≤ stamp"; "on a creation, on types 1 and 5, beside start mark 1 or with other times it is 6"
abbrev pub times : List Bool
times =
    gives 6 running (ended_at 21)
    ∷ gives 0 running (ended_at 6)
    ∷ gives 6 running (ended_at 5)
    ∷ gives 6 running (ended_at 4)
    ∷ gives 6 running (ended_at 30)
    ∷ gives 6 running (ended_at 20 but mark planned)
    ∷ gives 6 running (ended_at 20 but start 19 but mark planned)
    ∷ gives 6 unit_w (ended_at 20 but operation 1)
    ∷ gives 6 running (ended_at 20 but operation 1)
    ∷ gives 6 (unit_w but row R 1 5 ++ slot_of (begun_stop 1 5 30)) (ended_in stop 20 [] but qualification 1)
    ∷ gives 6 (unit_w but row RP 1 5 ++ slot_of (off_grid_at 1 5 30)) (ended_in off_grid 20 [] but qualification 1)
    -- types 2 to 4, on all kinds that carry them
    ∷ gives 0 (unit_w ++ holding negative_derating) (ended negative_derating 20 20000)
    ∷ gives 0 (unit_w ++ holding forced_work) (ended forced_work 20 20000)
    ∷ gives 0 (unit_m ++ slot_of (begun_for forced_work 20000 but direction 2)) (ended forced_work 20 20000 but direction 2)
    ∷ gives 0 (unit_z ++ holding forced_work) (ended forced_work 20 20000)
    ∷ gives 0 (unit_a ++ holding positive_derating) (ended_at 20)
    ∷ gives 5 (unit_a ++ holding forced_work) (ended forced_work 20 20000)
    ∷ []

-- 8. "The parts must still cover the shortened period"; 9 is asked
abbrev pub parts : List Bool
parts =
    gives 0 running (ended_in positive_derating 14 (part_of 5 8 20000 ∷ part_of 8 14 30000 ∷ []))
    ∷ gives 8 running (ended_in positive_derating 14 [])
    ∷ names 2 running (ended_in positive_derating 14 (part_of 5 8 20000 ∷ part_of 8 15 30000 ∷ []))
    ∷ names 2 running (ended_in positive_derating 14 (part_of 5 8 20000 ∷ part_of 8 13 30000 ∷ []))
    ∷ names 2 running (ended_in positive_derating 14 (part_of 5 8 20000 ∷ part_of 9 14 30000 ∷ []))
    -- the parts that were planned
    ∷ names 1 running (ended_in positive_derating 14 (part_of 5 30 20000 ∷ []))
    ∷ names 3 running (ended_in positive_derating 14 (part_of 5 8 20000 ∷ part_of 8 14 20000 ∷ part_of 14 30 20000 ∷ []))
    ∷ gives 0 running (ended positive_derating 20 99999999)
    ∷ gives 9 running (ended positive_derating 20 100000000)
    ∷ []

-- 7. "neither its end nor its part ends are held to quarter hours"; "the overlap and power questions 15 to 17 are passed over"
abbrev pub passed_over : List Bool
passed_over =
    gives 0 running (ended_at 7)
    ∷ gives 7 running (changed (levelled positive_derating 5 31 20000) but mark executed but stamp 20)
    ∷ names 1 running (ended_in positive_derating 20 (part_of 5 31 20000 ∷ []))
    ∷ gives 0 (running ++ held (begun_for positive_derating 20000)) (ended_at 20)
    ∷ gives 15 (running ++ held (begun_for positive_derating 20000)) (changed (begun_for positive_derating 20000))
    ∷ gives 0 running (ended positive_derating 20 200001)
    ∷ gives 16 running (changed (begun_for positive_derating 200001))
    ∷ gives 0 (running ++ held (begun_for forced_work 180001)) (ended_at 20)
    ∷ gives 17 (running ++ held (begun_for forced_work 180001)) (changed (begun_for positive_derating 20000))
    ∷ []

-- 10 to 13, as for any change; 14. "where the record in the slot has not begun it is 14"
abbrev pub held_records : List Bool
held_records =
    gives 0 running (ended_at 10 but stamp 10)
    ∷ gives 10 running (ended_at 9 but stamp 9)
    ∷ gives 12 unit_w (ended_at 20)
    ∷ gives 12 (unit_w ++ held (begun_for positive_derating 20000)) (ended_at 20)
    ∷ gives 0 running (ended_at 20 but stamp 29)
    ∷ gives 12 running (ended_at 20 but stamp 30)
    ∷ gives 13 running (ended_at 20 but ordinal 1)
    ∷ gives 13 running (ended negative_derating 20 20000)
    ∷ gives 13 (unit_m ++ holding positive_derating) (ended_at 20 but direction 2)
    ∷ gives 14 (unit_w ++ slot_of (begun_for positive_derating 20000 but mark planned)) (ended_at 20)
    ∷ gives 14 running (changed (levelled positive_derating 6 20 20000) but mark executed but with_end_mark executed but stamp 20)
    ∷ gives 14 running (changed (levelled positive_derating 4 20 20000) but mark executed but with_end_mark executed but stamp 20)
    -- 13 before 14
    ∷ gives 13 (unit_w ++ slot_of (begun_for positive_derating 20000 but mark planned)) (ended_at 20 but ordinal 1)
    ∷ []

-- "The record leaves its slot, and the answer carries warnings 0."
abbrev pub afterwards : List Bool
afterwards =
    becomes running (ended_at 14) (unit_w but with_last_stamp 20)
    -- other live records, and the row
    ∷ becomes
    (unit_w but row R 1 5 ++ held (begun_stop 1 5 30) ++ holding positive_derating ++ slot_of (begun_for negative_derating 0 but identifier 3))
    (ended_at 14)
    (unit_w but row R 1 5 but with_last_stamp 20 ++ held (begun_stop 1 5 30) ++ freed ++ slot_of (begun_for negative_derating 0 but identifier 3))
    -- a dead one goes
    ∷ becomes (unit_w ++ held (begun_for negative_derating 0 but end 20) ++ holding positive_derating) (ended_at 14) (unit_w but with_last_stamp 20)
    ∷ becomes
    (unit_w ++ held (begun_for negative_derating 0 but end 21) ++ holding positive_derating)
    (ended_at 14)
    (unit_w but with_last_stamp 20 ++ held (begun_for negative_derating 0 but end 21))
    -- under a stop; a level above Pmax, and below Pmin
    ∷ warns 0 (running ++ held (begun_stop 1 5 30)) (ended_at 14)
    ∷ warns 1 (running ++ held (begun_stop 1 5 30)) (changed (begun_for positive_derating 20000))
    ∷ warns 0 (unit_w ++ holding forced_work) (ended forced_work 14 200001)
    ∷ warns 2 (unit_w ++ holding forced_work) (changed (begun_for forced_work 200001))
    ∷ warns 0 (unit_w ++ holding forced_work) (ended forced_work 14 0)
    ∷ warns 4 (unit_w ++ holding forced_work) (changed (begun_for forced_work 0))
    ∷ []
