-- "Accepted (0)": the block afterwards, to the byte.
use Rattle.std.specs.Prelude.{ℕ, List, [], ◌∷◌, ◌++◌, Bool, eqb, length}
use Rattle.rules.specs.Codes.{stop, positive_derating, executed, R, RO, U1, U2, P, RP}
use Rattle.rules.specs.Block.{zeros}
use Rattle.rules.specs.After.{head_after, block_after}
use Rattle.rules.specs.Judge.{judge}
use Rattle.rules.specs.Samples.{◌but◌, direction, mark, qualification, identifier, stamp, levelled, planned_stop, begun_stop, event_at, slot_of}
use Rattle.rules.specs.Boundaries.Tests.{unit_w, unit_m, unit_z, unit_a, row, with_last_stamp, positive, negative, forced, off_grid_at, held, changed, withdrawn, same_bytes, becomes}
use Rattle.rules.specs.Boundaries.Slots.{later}

abbrev pub freed : List ℕ
freed = zeros 888

-- the head becomes this one
abbrev pub leads : List ℕ → List ℕ → List ℕ → Bool
leads page s after = same_bytes after (head_after page s)

-- "a state change sets state, qualification (a stop's or off-grid record's own) and since (the start)"; "Codes 5 and 6 give
-- qualification 8 (RE), 1 to 4 give 0"
abbrev pub rows : List Bool
rows =
    leads (unit_w but row R 1 0) (event_at 1 9) (unit_w but row RO 0 9)
    ∷ leads (unit_w but row RO 0 0) (event_at 2 9) (unit_w but row U1 0 9)
    ∷ leads (unit_w but row U1 0 0) (event_at 3 9) (unit_w but row U2 0 9)
    ∷ leads (unit_w but row RP 1 0) (event_at 3 9) (unit_w but row P 0 9)
    ∷ leads (unit_w but row U2 0 0) (event_at 4 9) (unit_w but row P 0 9)
    ∷ leads (unit_w but row P 0 0) (event_at 5 9) (unit_w but row R 8 9)
    ∷ leads (unit_w but row RP 1 0) (event_at 5 9) (unit_w but row R 8 9)
    ∷ leads (unit_w but row RO 0 0) (event_at 6 9) (unit_w but row R 8 9)
    ∷ leads (unit_w but row U1 0 0) (event_at 6 9) (unit_w but row R 8 9)
    ∷ leads (unit_w but row U2 0 0) (event_at 6 9) (unit_w but row R 8 9)
    ∷ leads (unit_w but row P 0 0) (begun_stop 7 6 30) (unit_w but row R 7 6)
    ∷ leads (unit_w but row R 8 0) (begun_stop 1 6 30) (unit_w but row R 1 6)
    ∷ leads (unit_w but row RP 1 0) (begun_stop 5 6 30) (unit_w but row R 5 6)
    ∷ leads (unit_w but row P 0 0) (off_grid_at 5 6 30) (unit_w but row RP 5 6)
    ∷ leads (unit_w ++ slot_of (planned_stop 2 15 30)) (changed (begun_stop 2 6 30)) (unit_w but row R 2 6)
    -- "last stamp becomes the stamp"
    ∷ leads (unit_w but row P 0 0) (event_at 5 9 but stamp 14) (unit_w but row R 8 9 but with_last_stamp 14)
    ∷ leads unit_w (positive 20000 but stamp 14) (unit_w but with_last_stamp 14)
    ∷ leads (unit_w ++ slot_of (positive 20000)) (withdrawn positive_derating 15 30 but stamp 14) (unit_w but with_last_stamp 14)
    -- no state change
    ∷ leads unit_w (planned_stop 1 15 30) unit_w
    ∷ leads (unit_w but row R 1 5 ++ slot_of (begun_stop 1 5 30)) (changed (begun_stop 1 5 45)) (unit_w but row R 1 5)
    ∷ leads (unit_w ++ slot_of (planned_stop 1 15 30)) (withdrawn stop 6 30 but qualification 1 but mark executed) unit_w
    ∷ leads unit_m (begun_stop 1 6 30 but direction 3) unit_m
    ∷ leads unit_z (begun_stop 1 6 30) unit_z
    ∷ leads unit_a (begun_stop 1 6 30) unit_a
    ∷ []

-- "a withdrawn slot becomes zeros, a change rewrites its slot, a creation takes the lowest free one"; "dead .. slots become zeros"
abbrev pub slots : List Bool
slots =
    becomes unit_w (positive 20000 but stamp 14) (unit_w but with_last_stamp 14 ++ slot_of (positive 20000 but stamp 14))
    ∷ eqb (length (block_after unit_w (positive 20000))) 7168
    ∷ becomes (unit_w ++ held (negative 20000)) (positive 20000) (unit_w ++ held (negative 20000) ++ slot_of (positive 20000))
    ∷ becomes
    (unit_w ++ held (negative 20000) ++ freed ++ slot_of (forced 100000 but identifier 3))
    (positive 20000)
    (unit_w ++ held (negative 20000) ++ slot_of (positive 20000) ++ slot_of (forced 100000 but identifier 3))
    ∷ becomes
    (unit_w ++ held (negative 20000) ++ slot_of (positive 20000))
    (changed later but stamp 14)
    (unit_w but with_last_stamp 14 ++ held (negative 20000) ++ slot_of (changed later but stamp 14))
    ∷ becomes
    (unit_w ++ slot_of (positive 20000) ++ held (negative 20000))
    (withdrawn positive_derating 15 30)
    (unit_w ++ freed ++ held (negative 20000))
    -- dead at D+30, in every acceptance; the lowest free one is the dead one
    ∷ becomes (unit_w ++ held (positive 20000)) (event_at 5 9 but stamp 29)
    (unit_w but row R 8 9 but with_last_stamp 29 ++ held (positive 20000))
    ∷ becomes (unit_w ++ held (positive 20000)) (event_at 5 9 but stamp 30) (unit_w but row R 8 9 but with_last_stamp 30)
    ∷ becomes
    (unit_w ++ held (positive 20000) ++ slot_of (levelled positive_derating 30 45 20000))
    (withdrawn positive_derating 30 45 but stamp 30)
    (unit_w but with_last_stamp 30)
    ∷ becomes (unit_w ++ held (positive 20000)) (later but stamp 30) (unit_w but with_last_stamp 30 ++ slot_of (later but stamp 30))
    ∷ []

-- a begun stop, an off-grid record, a planned stop and a begun derating, with identifiers of their own
abbrev pub begun_stop3 : List ℕ
begun_stop3 = slot_of (begun_stop 1 5 30 but identifier 3)

abbrev pub off_grid4 : List ℕ
off_grid4 = slot_of (off_grid_at 1 5 30 but identifier 4)

abbrev pub planned_stop5 : List ℕ
planned_stop5 = slot_of (planned_stop 1 30 45 but identifier 5)

abbrev pub begun_derating6 : List ℕ
begun_derating6 = slot_of (levelled positive_derating 5 30 0 but mark executed but identifier 6)

-- "every other live begun stop or off-grid record of the unit leaves"; "it then closes at the new start and leaves"
abbrev pub leaving : List Bool
leaving =
    becomes
    (unit_w ++ begun_stop3 ++ off_grid4 ++ planned_stop5 ++ begun_derating6)
    (event_at 5 9)
    (unit_w but row R 8 9 ++ freed ++ freed ++ planned_stop5 ++ begun_derating6)
    -- a begun stop, and "the lowest free one" after those that leave
    ∷ becomes
    (unit_w ++ begun_derating6 ++ begun_stop3 ++ off_grid4)
    (begun_stop 2 6 30)
    (unit_w but row R 2 6 ++ begun_derating6 ++ slot_of (begun_stop 2 6 30))
    -- an off-grid record
    ∷ becomes (unit_w ++ begun_stop3 ++ begun_derating6) (off_grid_at 1 6 30)
    (unit_w but row RP 1 6 ++ slot_of (off_grid_at 1 6 30) ++ begun_derating6)
    -- a planned stop that is begun, in its slot
    ∷ becomes
    (unit_w ++ begun_stop3 ++ slot_of (planned_stop 2 30 45))
    (changed (begun_stop 2 6 45))
    (unit_w but row R 2 6 ++ freed ++ slot_of (changed (begun_stop 2 6 45)))
    -- without a state change question 15 alone closes
    ∷ becomes
    (unit_m ++ begun_stop3 ++ slot_of (begun_stop 1 5 30 but direction 2 but identifier 4))
    (begun_stop 1 6 30 but direction 2)
    (unit_m ++ begun_stop3 ++ slot_of (begun_stop 1 6 30 but direction 2))
    ∷ becomes
    (unit_m ++ begun_stop3 ++ slot_of (begun_stop 1 5 30 but direction 2 but identifier 4))
    (begun_stop 1 6 30 but direction 3)
    (unit_m ++ slot_of (begun_stop 1 6 30 but direction 3))
    ∷ becomes
    (unit_w but row R 2 6 ++ slot_of (begun_stop 2 6 30) ++ off_grid4)
    (changed (begun_stop 2 6 45))
    (unit_w but row R 2 6 ++ slot_of (changed (begun_stop 2 6 45)) ++ off_grid4)
    ∷ becomes (unit_w ++ begun_stop3) (planned_stop 1 45 60) (unit_w ++ begun_stop3 ++ slot_of (planned_stop 1 45 60))
    -- a withdrawal closes nothing
    ∷ becomes
    (unit_w ++ begun_stop3 ++ slot_of (planned_stop 1 30 45))
    (withdrawn stop 6 45 but qualification 1 but mark executed)
    (unit_w ++ begun_stop3)
    ∷ []

-- a refusal leaves the page; "Refusals carry warnings 0."
abbrev pub refusals : List Bool
refusals =
    same_bytes unit_w (judge unit_w (positive 200001 but stamp 14)).after
    ∷ eqb (judge (unit_w ++ held (positive 20000)) (forced 200001)).answer.number 17
    ∷ eqb (judge (unit_w ++ held (positive 20000)) (forced 200001)).answer.warnings 0
    ∷ []
