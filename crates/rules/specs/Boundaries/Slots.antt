-- Questions 10 to 15: the report against the unit's slots.
use Rattle.std.specs.Prelude.{List, [], ◌∷◌, ◌++◌, Bool, not, ℕ}
use Rattle.rules.specs.Codes.{stop, positive_derating, negative_derating, executed, R, RP}
use Rattle.rules.specs.Records.{closes}
use Rattle.rules.specs.Questions.{record_of}
use Rattle.rules.specs.Samples.{◌but◌, byte, direction, mark, qualification, ordinal, identifier, stamp, start, end, levelled, planned_stop, begun_stop, event_at, slot_of}
use Rattle.rules.specs.Boundaries.Tests.{unit_w, unit_m, row, positive, negative, off_grid_at, held, changed, withdrawn, gives}

-- the unit holds the report's own record, planned from D+15 to D+30
abbrev pub holding : List ℕ
holding = unit_w ++ slot_of (positive 20000)

-- a later derating, from D+45 to D+60
abbrev pub later : List ℕ
later = levelled positive_derating 45 60 20000

-- 10. "Is the stamp not before the unit's last stamp?" It is D+10.
abbrev pub stamps : List Bool
stamps =
    gives 0 unit_w (positive 20000 but stamp 10)
    ∷ gives 10 unit_w (positive 20000 but stamp 9)
    ∷ gives 10 unit_w (event_at 5 9 but stamp 9)
    ∷ gives 10 holding (withdrawn positive_derating 15 30 but stamp 9)
    ∷ []

-- 11. "Create: is the identifier in no live slot?" "a slot is live if its end > stamp; others count as free"
abbrev pub identifiers : List Bool
identifiers =
    gives 11 holding later
    ∷ gives 0 holding (later but byte 16 2)
    ∷ gives 0 holding (later but byte 31 2)
    ∷ gives 11 holding (later but stamp 29)
    ∷ gives 0 holding (later but stamp 30)
    ∷ gives 11 (unit_w ++ held (negative 20000) ++ slot_of (positive 20000)) later
    -- an event skips 11
    ∷ gives 0 (unit_w ++ slot_of (positive 20000 but identifier 0)) (event_at 5 10)
    -- 12. "Change, withdraw: is it in one?"
    ∷ gives 12 unit_w (changed later)
    ∷ gives 0 holding (changed later)
    ∷ gives 12 holding (changed later but byte 16 2)
    ∷ gives 12 holding (changed later but byte 31 2)
    ∷ gives 0 holding (changed later but stamp 29)
    ∷ gives 12 holding (changed later but stamp 30)
    ∷ gives 12 unit_w (withdrawn positive_derating 15 30)
    ∷ gives 0 holding (withdrawn positive_derating 15 30)
    ∷ gives 0 holding (withdrawn positive_derating 15 30 but stamp 29)
    ∷ gives 12 holding (withdrawn positive_derating 15 30 but stamp 30)
    ∷ []

-- 13. "Are type, direction and qualification those of that slot, and the ordinal greater?"
abbrev pub same_record : List Bool
same_record =
    gives 13 holding (changed (negative 20000))
    ∷ gives 13 (unit_m ++ slot_of (positive 20000)) (changed later but direction 2)
    ∷ gives 0 (unit_m ++ slot_of (positive 20000 but direction 2)) (changed later but direction 2)
    ∷ gives 0 (unit_w ++ slot_of (planned_stop 1 15 30)) (changed (planned_stop 1 45 60))
    ∷ gives 13 (unit_w ++ slot_of (planned_stop 1 15 30)) (changed (planned_stop 2 45 60))
    ∷ gives 13 (unit_w ++ slot_of (positive 20000 but ordinal 5)) (changed later but ordinal 4)
    ∷ gives 13 (unit_w ++ slot_of (positive 20000 but ordinal 5)) (changed later but ordinal 5)
    ∷ gives 0 (unit_w ++ slot_of (positive 20000 but ordinal 5)) (changed later but ordinal 6)
    -- of a withdrawal too
    ∷ gives 13 holding (withdrawn negative_derating 15 30)
    ∷ gives 13 (unit_m ++ slot_of (positive 20000)) (withdrawn positive_derating 15 30 but direction 2)
    ∷ gives 13 (unit_w ++ slot_of (planned_stop 1 15 30)) (withdrawn stop 15 30 but qualification 2)
    ∷ gives 0 (unit_w ++ slot_of (planned_stop 1 15 30)) (withdrawn stop 15 30 but qualification 1)
    ∷ gives 13 holding (withdrawn positive_derating 15 30 but ordinal 1)
    ∷ []

-- a begun derating
abbrev pub begun_from : ℕ → ℕ → List ℕ
begun_from start end = levelled positive_derating start end 20000 but mark executed

-- 14. "Change of a begun (mark 2) record: same start and mark? Withdrawal: not begun?"
abbrev pub begun_records : List Bool
begun_records =
    gives 0 (unit_w ++ slot_of (begun_from 5 30)) (changed (begun_from 5 45))
    ∷ gives 14 (unit_w ++ slot_of (begun_from 5 30)) (changed (begun_from 6 45))
    ∷ gives 14 (unit_w ++ slot_of (begun_from 5 30)) (changed (begun_from 4 45))
    -- the mark alone tells only where the slot begins after the stamp
    ∷ gives 14 (unit_w ++ slot_of (begun_from 15 30)) (changed (positive 20000))
    -- a planned one may be moved or begun
    ∷ gives 0 holding (changed (levelled positive_derating 30 45 20000))
    ∷ gives 0 holding (changed (begun_from 5 30))
    ∷ gives 14 (unit_w ++ slot_of (begun_from 5 30)) (withdrawn positive_derating 5 30)
    ∷ gives 14 (unit_w ++ slot_of (begun_from 5 30)) (withdrawn positive_derating 5 30 but mark executed)
    ∷ gives 0 holding (withdrawn positive_derating 15 30 but mark executed)
    ∷ gives 0 holding (withdrawn positive_derating 15 30 but stamp 20)
    ∷ []

-- 15. "Does no other live record of its type with a meeting direction overlap it?"
abbrev pub overlaps : List Bool
overlaps =
    gives 0 (unit_w ++ held (levelled positive_derating 30 45 20000)) (positive 20000)
    ∷ gives 15 (unit_w ++ held (levelled positive_derating 29 45 20000)) (positive 20000)
    ∷ gives 0 (unit_w ++ held (levelled positive_derating 0 15 20000)) (positive 20000)
    ∷ gives 15 (unit_w ++ held (levelled positive_derating 0 16 20000)) (positive 20000)
    ∷ gives 15 (unit_w ++ held (levelled positive_derating 0 60 20000)) (positive 20000)
    ∷ gives 15 (unit_w ++ held (levelled positive_derating 20 25 20000)) (positive 20000)
    -- "of its type"
    ∷ gives 0 (unit_w ++ held (negative 20000)) (positive 20000)
    ∷ gives 15 (unit_w ++ held (planned_stop 1 15 30)) (planned_stop 2 15 30)
    -- "Two directions meet if equal or if one is 3."
    ∷ gives 0 (unit_m ++ held (positive 20000)) (positive 20000 but direction 2)
    ∷ gives 15 (unit_m ++ held (positive 20000 but direction 2)) (positive 20000 but direction 2)
    ∷ gives 0 (unit_m ++ held (planned_stop 1 15 30)) (planned_stop 2 15 30 but direction 2)
    ∷ gives 15 (unit_m ++ held (planned_stop 1 15 30)) (planned_stop 2 15 30 but direction 3)
    ∷ gives 15 (unit_m ++ held (planned_stop 1 15 30 but direction 3)) (planned_stop 2 15 30 but direction 2)
    ∷ gives 15 (unit_m ++ held (planned_stop 1 15 30 but direction 3)) (planned_stop 2 15 30 but direction 3)
    -- "live": the other ends at D+30
    ∷ gives 15 (unit_w ++ held (positive 20000)) (begun_from 5 45 but stamp 29)
    ∷ gives 0 (unit_w ++ held (positive 20000)) (begun_from 5 45 but stamp 30)
    -- "From 15 on a changed slot counts as the report."
    ∷ gives 0 holding (changed (levelled positive_derating 15 45 20000))
    ∷ gives 15 (holding ++ held later) (changed later)
    -- a withdrawal skips 15
    ∷ gives 0 (holding ++ held later) (withdrawn positive_derating 45 60)
    ∷ []

-- in state R, for the qualification RA, since D+5, with the begun stop that led there
abbrev pub stopped : List ℕ
stopped = unit_w but row R 1 5 ++ held (begun_stop 1 5 30)

-- 15. "Exception: both are begun stops and the other started earlier"
abbrev pub closing : List Bool
closing =
    gives 0 stopped (begun_stop 2 6 30)
    ∷ gives 15 (unit_w but row R 1 4 ++ held (begun_stop 1 5 30)) (begun_stop 2 5 30)
    ∷ gives 15 (unit_w but row R 1 3 ++ held (begun_stop 1 5 30)) (begun_stop 2 4 30)
    -- "both are begun stops"
    ∷ gives 15 (unit_w ++ held (planned_stop 1 15 30)) (begun_stop 2 6 30)
    ∷ gives 15 (unit_w ++ held (planned_stop 1 5 30)) (begun_stop 2 6 30)
    ∷ gives 15 stopped (planned_stop 2 15 30)
    ∷ gives 15 (unit_w ++ held (begun_from 5 30)) (begun_from 6 30)
    ∷ gives 15 (unit_w but row RP 1 5 ++ held (off_grid_at 1 5 30)) (off_grid_at 1 6 30)
    ∷ not (closes (record_of (begun_stop 2 6 30)) (record_of (begun_from 5 30)))
    -- each of two
    ∷ gives 15 (stopped ++ slot_of (planned_stop 1 15 30 but identifier 3)) (begun_stop 2 6 30)
    ∷ gives 15 (unit_w but row R 1 5 ++ held (planned_stop 1 15 30) ++ slot_of (begun_stop 1 5 30 but identifier 3)) (begun_stop 2 6 30)
    -- with meeting directions
    ∷ gives 0 (unit_m ++ held (begun_stop 1 5 30)) (begun_stop 1 6 30 but direction 3)
    ∷ gives 0 (unit_m ++ held (begun_stop 1 5 30 but direction 3)) (begun_stop 1 6 30 but direction 2)
    -- of a planned stop that is begun
    ∷ gives 0 (stopped ++ slot_of (planned_stop 2 30 45)) (changed (begun_stop 2 6 45))
    ∷ []
