-- Questions 4 to 9: for each clause a report that just passes and one that just fails.
use Rattle.std.specs.Prelude.{ℕ, ◌+◌, ◌-◌, List, [], ◌∷◌, ◌++◌, Bool, not, ◌&&◌, eqb, take, drop, is_ok}
use Rattle.fields.specs.Lists.{series}
use Rattle.quantities.specs.declared.Period.{Period}
use Rattle.report.specs.declared.Part.{Part}
use Rattle.report.specs.Cover.{cover_of, broken_part}
use Rattle.report.specs.Report.{head_of, parts_of}
use Rattle.rules.specs.Codes.{stop, positive_derating, negative_derating, forced_work, off_grid, event, planned, executed}
use Rattle.rules.specs.Questions.{question7}
use Rattle.rules.specs.Samples.{period, part_of, ◌but◌, byte, word, type, operation, direction, mark, with_end_mark, qualification, ordinal, identifier, stamp, start, end, created, levelled, planned_stop, begun_stop, event_at, slot_of}
use Rattle.rules.specs.Boundaries.Tests.{unit_w, unit_m, unit_z, unit_a, positive, negative, forced, off_grid_at, withdrawn, gives, names}

-- "0 to 26,298,719"
abbrev pub last_time : ℕ
last_time = 26298719

abbrev pub no_time : ℕ
no_time = 26298720

abbrev pub stepped : List ℕ
stepped = created positive_derating 15 45 (part_of 15 30 20000 ∷ part_of 30 45 30000 ∷ [])

-- a stop that has a part
abbrev pub parted_stop : ℕ → ℕ → List ℕ
parted_stop start end = created stop 15 30 (part_of start end 0 ∷ []) but qualification 1

-- 4. "Are the fields in range: those above, .. ordinal 1–9,999, operation 1 and identifier zero for an event, event code 1–6 as
-- qualification, qualification 0 for types 2–4?"
abbrev pub ranges : List Bool
ranges =
    gives 0 unit_w (positive 20000)
    -- "Types: 1 stop .. 6 event. Operations: 1 create, 2 change, 3 withdraw. Directions: 1 generation, 2 consumption, 3 both."
    ∷ gives 4 unit_w (positive 20000 but type 0)
    ∷ gives 4 unit_w (positive 20000 but type 7)
    ∷ gives 4 unit_w (positive 20000 but operation 0)
    ∷ gives 12 unit_w (positive 20000 but operation 2)
    ∷ gives 12 unit_w (withdrawn positive_derating 15 30)
    ∷ gives 4 unit_w (withdrawn positive_derating 15 30 but operation 4)
    ∷ gives 4 unit_w (positive 20000 but direction 0)
    ∷ gives 5 unit_w (positive 20000 but direction 3)
    ∷ gives 4 unit_w (positive 20000 but direction 4)
    -- "Marks: 1 planned, 2 executed."
    ∷ gives 4 unit_w (positive 20000 but mark 0)
    ∷ gives 6 unit_w (positive 20000 but mark 2)
    ∷ gives 4 unit_w (positive 20000 but mark 3)
    ∷ gives 4 unit_w (positive 20000 but with_end_mark 0)
    ∷ gives 6 unit_w (positive 20000 but with_end_mark 2)
    ∷ gives 4 unit_w (positive 20000 but with_end_mark 3)
    -- "Stop qualifications: 1 RA .. 7 OS; 8 RE stands only in a unit's row. Off-grid: 1 PZM .. 5 BLT."
    ∷ gives 4 unit_w (planned_stop 0 15 30)
    ∷ gives 0 unit_w (planned_stop 1 15 30)
    ∷ gives 0 unit_w (planned_stop 7 15 30)
    ∷ gives 4 unit_w (planned_stop 8 15 30)
    ∷ gives 4 unit_w (off_grid_at 0 5 30)
    ∷ gives 0 unit_w (off_grid_at 1 5 30)
    ∷ gives 0 unit_w (off_grid_at 5 5 30)
    ∷ gives 4 unit_w (off_grid_at 6 5 30)
    -- "event code 1–6 as qualification, qualification 0 for types 2–4"; the codes 1 to 6 stand with question 18
    ∷ gives 4 unit_w (event_at 0 10)
    ∷ gives 4 unit_w (event_at 7 10)
    ∷ gives 4 unit_w (positive 20000 but qualification 1)
    ∷ gives 4 unit_w (negative 20000 but qualification 1)
    ∷ gives 4 unit_w (forced 100000 but qualification 1)
    -- "ordinal 1–9,999"
    ∷ gives 4 unit_w (positive 20000 but ordinal 0)
    ∷ gives 0 unit_w (positive 20000 but ordinal 9999)
    ∷ gives 4 unit_w (positive 20000 but ordinal 10000)
    -- "operation 1 and identifier zero for an event"
    ∷ gives 0 unit_w (event_at 5 10)
    ∷ gives 4 unit_w (event_at 5 10 but operation 2)
    ∷ gives 4 unit_w (event_at 5 10 but operation 3)
    ∷ gives 4 unit_w (event_at 5 10 but byte 16 1)
    ∷ gives 4 unit_w (event_at 5 10 but byte 31 1)
    ∷ gives 0 unit_w (positive 20000 but identifier 0)
    ∷ []

-- 4. "times (parts' too)"
abbrev pub times : List Bool
times =
    gives 6 unit_w (positive 20000 but word 32 last_time)
    ∷ gives 4 unit_w (positive 20000 but word 32 no_time)
    ∷ gives 6 unit_w (positive 20000 but word 36 last_time)
    ∷ gives 4 unit_w (positive 20000 but word 36 no_time)
    ∷ gives 7 unit_w (positive 20000 but word 40 last_time)
    ∷ gives 4 unit_w (positive 20000 but word 40 no_time)
    -- a part's start and end, the second one's too, a stop's too
    ∷ names 1 unit_w (positive 20000 but word 52 last_time)
    ∷ gives 4 unit_w (positive 20000 but word 52 no_time)
    ∷ gives 7 unit_w (positive 20000 but word 56 last_time)
    ∷ gives 4 unit_w (positive 20000 but word 56 no_time)
    ∷ gives 4 unit_w (stepped but word 68 no_time)
    ∷ gives 4 unit_w (stepped but word 72 no_time)
    ∷ gives 4 unit_w (parted_stop 15 30 but word 56 no_time)
    -- an event's, and a withdrawal's
    ∷ gives 4 unit_w (event_at 5 10 but word 36 no_time)
    ∷ gives 4 unit_w (withdrawn positive_derating 15 30 but word 40 no_time)
    ∷ gives 12 unit_w (withdrawn positive_derating 15 30 but word 40 last_time)
    ∷ []

-- 5. "Does the kind carry it? W1, Z1: direction 1. M1, A: 1 or 2, and 3 for stops. Types 5, 6: W1 only. Type 4: not A."
abbrev pub kinds : List Bool
kinds =
    gives 5 unit_w (positive 20000 but direction 2)
    ∷ gives 5 unit_w (planned_stop 1 15 30 but direction 2)
    ∷ gives 5 unit_w (planned_stop 1 15 30 but direction 3)
    ∷ gives 0 unit_z (positive 20000)
    ∷ gives 5 unit_z (positive 20000 but direction 2)
    ∷ gives 5 unit_z (planned_stop 1 15 30 but direction 2)
    ∷ gives 5 unit_z (planned_stop 1 15 30 but direction 3)
    ∷ gives 0 unit_m (positive 20000)
    ∷ gives 0 unit_m (positive 20000 but direction 2)
    ∷ gives 5 unit_m (positive 20000 but direction 3)
    ∷ gives 5 unit_m (negative 20000 but direction 3)
    ∷ gives 5 unit_m (forced 100000 but direction 3)
    ∷ gives 0 unit_m (planned_stop 1 15 30 but direction 2)
    ∷ gives 0 unit_m (planned_stop 1 15 30 but direction 3)
    ∷ gives 0 unit_a (positive 20000)
    ∷ gives 0 unit_a (positive 20000 but direction 2)
    ∷ gives 5 unit_a (positive 20000 but direction 3)
    ∷ gives 0 unit_a (planned_stop 1 15 30 but direction 3)
    -- "Types 5, 6: W1 only."
    ∷ gives 0 unit_w (off_grid_at 1 5 30)
    ∷ gives 5 unit_m (off_grid_at 1 5 30)
    ∷ gives 5 unit_z (off_grid_at 1 5 30)
    ∷ gives 5 unit_a (off_grid_at 1 5 30)
    ∷ gives 5 unit_m (event_at 5 10)
    ∷ gives 5 unit_z (event_at 5 10)
    ∷ gives 5 unit_a (event_at 5 10)
    -- "Type 4: not A."
    ∷ gives 0 unit_w (forced 100000)
    ∷ gives 0 unit_m (forced 100000)
    ∷ gives 0 unit_z (forced 40000)
    ∷ gives 5 unit_a (forced 20000)
    ∷ gives 0 unit_a (negative 20000)
    ∷ []

-- 6. "Are the times honest?"
abbrev pub consistent_times : List Bool
consistent_times =
    -- "Types 1–5: start < end, end > stamp"
    gives 6 unit_w (planned_stop 1 30 30)
    ∷ gives 6 unit_w (planned_stop 1 45 30)
    ∷ gives 0 unit_w (begun_stop 1 5 15 but stamp 14)
    ∷ gives 6 unit_w (begun_stop 1 5 15 but stamp 15)
    -- "mark 1 with start > stamp, mark 2 with start ≤ stamp"
    ∷ gives 0 unit_w (planned_stop 1 15 30 but stamp 14)
    ∷ gives 6 unit_w (planned_stop 1 15 30 but stamp 15)
    ∷ gives 0 unit_w (begun_stop 1 10 30)
    ∷ gives 6 unit_w (begun_stop 1 11 30)
    -- "type 5 needs mark 2"
    ∷ gives 6 unit_w (off_grid_at 1 15 30 but mark planned)
    -- "Event: mark 2, start ≤ stamp, end = start."
    ∷ gives 6 unit_w (event_at 5 10 but mark planned)
    ∷ gives 6 unit_w (event_at 5 11)
    ∷ gives 6 unit_w (event_at 5 9 but end 10)
    ∷ gives 6 unit_w (event_at 5 9 but end 8)
    ∷ gives 0 unit_w (event_at 5 9)
    ∷ []

-- a begun derating of two parts, from D+3 to D+30
abbrev pub begun_stepped : ℕ → List ℕ
begun_stepped step = created positive_derating 3 30 (part_of 3 step 20000 ∷ part_of step 30 20000 ∷ []) but mark executed

-- 7. "For types 1–5, are end, a planned start and every part end after the stamp multiples of 15 (rule 18)?"
abbrev pub quarters : List Bool
quarters =
    gives 0 unit_w (planned_stop 1 15 45)
    ∷ gives 7 unit_w (planned_stop 1 15 31)
    ∷ gives 7 unit_w (planned_stop 1 15 33)
    ∷ gives 7 unit_w (planned_stop 1 15 35)
    ∷ gives 7 unit_w (off_grid_at 1 5 31)
    ∷ gives 7 unit_w (planned_stop 1 16 30)
    ∷ gives 7 unit_w (planned_stop 1 20 30)
    ∷ gives 0 unit_w (begun_stop 1 8 30)
    -- "a planned start" is one with mark 1, wherever the stamp lies; question 6 has not been asked here
    ∷ not (question7 (head_of (planned_stop 1 8 30)) (parts_of (planned_stop 1 8 30)))
    ∷ question7 (head_of (begun_stop 1 16 30)) (parts_of (begun_stop 1 16 30))
    -- "every part end after the stamp"
    ∷ gives 0 unit_w (begun_stepped 9)
    ∷ gives 0 unit_w (begun_stepped 10)
    ∷ gives 7 unit_w (begun_stepped 11)
    ∷ gives 0 unit_w (begun_stepped 15)
    ∷ gives 7 unit_w (parted_stop 15 31)
    ∷ gives 8 unit_w (parted_stop 16 30)
    -- "For types 1–5"
    ∷ gives 7 unit_w (levelled negative_derating 15 31 20000)
    ∷ gives 7 unit_w (levelled forced_work 15 31 100000)
    ∷ []

abbrev pub in_parts : List Part → List ℕ
in_parts parts = created positive_derating 15 45 parts

-- n parts of one minute from D on
abbrev pub minutes : ℕ → List Part
minutes n = series (λ i. part_of i (i + 1) 0) 0 n

-- the parts cover the period and none is named; they do not, and part n is named
abbrev pub covered : List Part → Period → Bool
covered ps q = is_ok (cover_of ps q) && eqb (broken_part (cover_of ps q)) 0

abbrev pub broken_at : ℕ → List Part → Period → Bool
broken_at n ps q = not (is_ok (cover_of ps q)) && eqb (broken_part (cover_of ps q)) n

-- 8. "Types 2–4: do 1 to 100 parts, each start < end, cover the period, in time order, without gap or overlap? Other types, and
-- withdrawals: no parts?"
abbrev pub cover : List Bool
cover =
    gives 8 unit_w (created positive_derating 15 30 [])
    ∷ gives 8 unit_w (created negative_derating 15 30 [])
    ∷ gives 8 unit_w (created forced_work 15 30 [])
    ∷ gives 8 unit_w (parted_stop 15 30)
    ∷ gives 8 unit_w (created off_grid 5 30 (part_of 5 30 0 ∷ []) but mark executed but qualification 1)
    ∷ gives 8 unit_w (created event 10 10 (part_of 10 15 0 ∷ []) but mark executed but qualification 5 but identifier 0)
    ∷ gives 8 (unit_w ++ slot_of (positive 20000)) (positive 20000 but operation 3 but ordinal 2)
    ∷ gives 0 unit_w (in_parts (part_of 15 30 20000 ∷ part_of 30 45 20000 ∷ []))
    -- "cover the period"
    ∷ names 1 unit_w (in_parts (part_of 16 30 20000 ∷ part_of 30 45 20000 ∷ []))
    ∷ names 1 unit_w (in_parts (part_of 14 30 20000 ∷ part_of 30 45 20000 ∷ []))
    ∷ names 1 unit_w (in_parts (part_of 15 30 20000 ∷ []))
    ∷ names 2 unit_w (in_parts (part_of 15 30 20000 ∷ part_of 30 60 20000 ∷ []))
    -- "each start < end", "in time order, without gap or overlap"
    ∷ names 2 unit_w (in_parts (part_of 15 30 20000 ∷ part_of 30 30 20000 ∷ part_of 30 45 20000 ∷ []))
    ∷ names 2 unit_w (in_parts (part_of 15 30 20000 ∷ part_of 30 15 20000 ∷ part_of 15 45 20000 ∷ []))
    ∷ names 1 unit_w (in_parts (part_of 30 45 20000 ∷ part_of 15 30 20000 ∷ []))
    ∷ names 2 unit_w (in_parts (part_of 15 30 20000 ∷ part_of 31 45 20000 ∷ []))
    ∷ names 2 unit_w (in_parts (part_of 15 30 20000 ∷ part_of 29 45 20000 ∷ []))
    -- "1 to 100 parts"
    ∷ covered (minutes 1) (period 0 1)
    ∷ covered (minutes 100) (period 0 100)
    ∷ broken_at 0 (minutes 101) (period 0 101)
    ∷ broken_at 0 [] (period 0 0)
    ∷ []

-- n parts of one minute from D on, but for part i, from 1
abbrev pub minutes_but : ℕ → ℕ → Part → List Part
minutes_but n i p = take (i - 1) (minutes n) ++ (p ∷ drop i (minutes n))

-- 02, A1: "the number, from 1, of the first part that breaks it; a list that stops short names the last part; a missing list, or a
-- list where none may be, names 0"
abbrev pub named_parts : List Bool
named_parts =
    -- the first of two that break it; an end past the period's; a part after the end is reached
    names 1 unit_w (in_parts (part_of 16 30 20000 ∷ part_of 31 45 20000 ∷ []))
    ∷ names 1 unit_w (in_parts (part_of 15 60 20000 ∷ part_of 60 45 20000 ∷ []))
    ∷ names 3 unit_w (in_parts (part_of 15 30 20000 ∷ part_of 30 45 20000 ∷ part_of 45 60 20000 ∷ []))
    -- lists that stop short
    ∷ names 2 unit_w (created positive_derating 15 60 (part_of 15 30 20000 ∷ part_of 30 45 20000 ∷ []))
    ∷ broken_at 1 (minutes 1) (period 0 2)
    ∷ broken_at 99 (minutes 99) (period 0 100)
    ∷ broken_at 100 (minutes 100) (period 0 101)
    -- ninety parts, the 57th off by a minute: its start late or early, or its end
    ∷ broken_at 57 (minutes_but 90 57 (part_of 57 58 0)) (period 0 90)
    ∷ broken_at 57 (minutes_but 90 57 (part_of 55 57 0)) (period 0 90)
    ∷ broken_at 58 (minutes_but 90 57 (part_of 56 58 0)) (period 0 90)
    ∷ broken_at 57 (minutes_but 90 57 (part_of 56 56 0)) (period 0 90)
    ∷ broken_at 57 (minutes_but 90 57 (part_of 56 91 0)) (period 0 90)
    -- the hundredth
    ∷ broken_at 100 (minutes_but 100 100 (part_of 98 100 0)) (period 0 100)
    ∷ broken_at 100 (minutes_but 100 100 (part_of 99 99 0)) (period 0 100)
    ∷ broken_at 100 (minutes_but 100 100 (part_of 99 101 0)) (period 0 100)
    -- 4, 7 and 9 name none, whatever the list
    ∷ gives 4 unit_w (in_parts (part_of 16 30 20000 ∷ []) but ordinal 0)
    ∷ gives 7 unit_w (in_parts (part_of 15 31 20000 ∷ []))
    ∷ gives 9 unit_w (in_parts (part_of 15 45 100000000 ∷ []))
    -- a list where none may be, however it is broken
    ∷ gives 8 unit_w (parted_stop 16 30)
    ∷ gives 8 (unit_w ++ slot_of (positive 20000)) (in_parts (part_of 16 30 20000 ∷ []) but operation 3 but ordinal 2)
    ∷ []

-- 9. "Is each part's power, left by 4, 0 to 99,999,999?"
abbrev pub powers : List Bool
powers =
    gives 0 unit_w (forced 0)
    ∷ gives 0 unit_w (forced 99999999)
    ∷ gives 9 unit_w (forced 100000000)
    ∷ gives 9 unit_w (forced 0x7FFFFFFF)
    -- -1, and the lowest number
    ∷ gives 9 unit_w (forced 0xFFFFFFFF)
    ∷ gives 9 unit_w (forced 0x80000000)
    ∷ gives 9 unit_w (stepped but word 76 100000000)
    ∷ []
