-- Questions 16 to 19: the unit's powers, rule 20, its state, a free slot.
use Rattle.std.specs.Prelude.{ℕ, ◌+◌, ◌*◌, List, [], ◌∷◌, ◌++◌, Bool}
use Rattle.fields.specs.Lists.{joined}
use Rattle.rules.specs.Codes.{positive_derating, negative_derating, forced_work, executed, R, RO, U1, U2, P, RP}
use Rattle.rules.specs.Samples.{part_of, ◌but◌, direction, mark, identifier, stamp, created, levelled, planned_stop, begun_stop, event_at, slot_of}
use Rattle.rules.specs.Boundaries.Tests.{unit_w, unit_m, unit_z, unit_a, row, positive, negative, forced, brief, off_grid_at, held, changed, gives}

-- 16. "Is each reported positive derating ≤ Pmax, each negative ≤ Pmax − Pmin of its direction?"
abbrev pub deratings : List Bool
deratings =
    gives 0 unit_w (positive 200000)
    ∷ gives 16 unit_w (positive 200001)
    ∷ gives 0 unit_w (negative 120000)
    ∷ gives 16 unit_w (negative 120001)
    ∷ gives 0 unit_m (positive 190000)
    ∷ gives 16 unit_m (positive 190001)
    ∷ gives 0 unit_m (negative 120000)
    ∷ gives 16 unit_m (negative 120001)
    ∷ gives 0 unit_m (positive 150000 but direction 2)
    ∷ gives 16 unit_m (positive 150001 but direction 2)
    ∷ gives 0 unit_m (negative 90000 but direction 2)
    ∷ gives 16 unit_m (negative 90001 but direction 2)
    ∷ gives 0 unit_z (positive 50000)
    ∷ gives 16 unit_z (positive 50001)
    ∷ gives 0 unit_z (negative 40000)
    ∷ gives 16 unit_z (negative 40001)
    ∷ gives 0 unit_a (positive 20000 but direction 2)
    ∷ gives 16 unit_a (positive 20001 but direction 2)
    ∷ gives 0 unit_a (negative 25000)
    ∷ gives 16 unit_a (negative 25001)
    -- "each"
    ∷ gives 16 unit_w (created positive_derating 15 45 (part_of 15 30 0 ∷ part_of 30 45 200001 ∷ []))
    ∷ gives 16 unit_w (created negative_derating 15 45 (part_of 15 30 120001 ∷ part_of 30 45 0 ∷ []))
    -- a forced level is left to the warnings
    ∷ gives 0 unit_w (forced 200001)
    ∷ []

-- 17. "W1, M1: level ≤ Pmax − positive derating where there is one, level ≥ Pmin + negative where there is one."
abbrev pub levels_w1_m1 : List Bool
levels_w1_m1 =
    gives 0 (unit_w ++ held (brief positive_derating 20000)) (brief forced_work 180000)
    ∷ gives 17 (unit_w ++ held (brief positive_derating 20000)) (brief forced_work 180001)
    ∷ gives 0 (unit_w ++ held (brief forced_work 180000)) (brief positive_derating 20000)
    ∷ gives 17 (unit_w ++ held (brief forced_work 180000)) (brief positive_derating 20001)
    ∷ gives 0 (unit_w ++ held (brief negative_derating 10000)) (brief forced_work 90000)
    ∷ gives 17 (unit_w ++ held (brief negative_derating 10000)) (brief forced_work 89999)
    ∷ gives 0 (unit_w ++ held (brief forced_work 90000)) (brief negative_derating 10000)
    ∷ gives 17 (unit_w ++ held (brief forced_work 90000)) (brief negative_derating 10001)
    ∷ gives 0 (unit_m ++ held (brief positive_derating 20000)) (brief forced_work 170000)
    ∷ gives 17 (unit_m ++ held (brief positive_derating 20000)) (brief forced_work 170001)
    ∷ gives 0 (unit_m ++ held (brief negative_derating 10000)) (brief forced_work 80000)
    ∷ gives 17 (unit_m ++ held (brief negative_derating 10000)) (brief forced_work 79999)
    ∷ gives 0 (unit_m ++ held (brief positive_derating 20000 but direction 2)) (brief forced_work 130000 but direction 2)
    ∷ gives 17 (unit_m ++ held (brief positive_derating 20000 but direction 2)) (brief forced_work 130001 but direction 2)
    ∷ gives 0 (unit_m ++ held (brief negative_derating 10000 but direction 2)) (brief forced_work 70000 but direction 2)
    ∷ gives 17 (unit_m ++ held (brief negative_derating 10000 but direction 2)) (brief forced_work 69999 but direction 2)
    -- "where there is one"
    ∷ gives 0 (unit_w ++ held (brief positive_derating 20000)) (brief forced_work 0)
    ∷ gives 0 (unit_w ++ held (brief negative_derating 10000)) (brief forced_work 200001)
    -- both, whichever is reported
    ∷ gives 0 (unit_w ++ held (brief positive_derating 20000) ++ slot_of (brief negative_derating 10000 but identifier 3))
    (brief forced_work 90000)
    ∷ gives 17 (unit_w ++ held (brief positive_derating 20000) ++ slot_of (brief negative_derating 10000 but identifier 3))
    (brief forced_work 180001)
    ∷ gives 17 (unit_w ++ held (brief positive_derating 20000) ++ slot_of (brief negative_derating 10000 but identifier 3))
    (brief forced_work 89999)
    -- "of one direction"
    ∷ gives 0 (unit_m ++ held (brief positive_derating 20000)) (brief forced_work 150000 but direction 2)
    ∷ gives 0 (unit_m ++ held (brief forced_work 150000 but direction 2)) (brief positive_derating 190000)
    ∷ []

-- 17. "Z1: where either is, level ≤ Pmax − Pmin − both."
abbrev pub levels_z1 : List Bool
levels_z1 =
    gives 0 unit_z (brief forced_work 50000)
    ∷ gives 0 (unit_z ++ held (brief positive_derating 5000)) (brief forced_work 35000)
    ∷ gives 17 (unit_z ++ held (brief positive_derating 5000)) (brief forced_work 35001)
    ∷ gives 0 (unit_z ++ held (brief negative_derating 5000)) (brief forced_work 35000)
    ∷ gives 17 (unit_z ++ held (brief negative_derating 5000)) (brief forced_work 35001)
    ∷ gives 0 (unit_z ++ held (brief forced_work 35000)) (brief positive_derating 5000)
    ∷ gives 17 (unit_z ++ held (brief forced_work 35000)) (brief positive_derating 5001)
    ∷ gives 0 (unit_z ++ held (brief positive_derating 5000) ++ slot_of (brief negative_derating 3000 but identifier 3))
    (brief forced_work 32000)
    ∷ gives 17 (unit_z ++ held (brief positive_derating 5000) ++ slot_of (brief negative_derating 3000 but identifier 3))
    (brief forced_work 32001)
    -- a bound below 0 fits no level
    ∷ gives 0 (unit_z ++ held (brief positive_derating 20000) ++ slot_of (brief negative_derating 20000 but identifier 3))
    (brief forced_work 0)
    ∷ gives 17 (unit_z ++ held (brief positive_derating 20000) ++ slot_of (brief negative_derating 20001 but identifier 3))
    (brief forced_work 0)
    ∷ []

-- a derating of two parts, from D+15 to D+30
abbrev pub in_two : ℕ → ℕ → ℕ → List ℕ
in_two step before after = created positive_derating 15 30 (part_of 15 step before ∷ part_of step 30 after ∷ [])

abbrev pub in_quarters : ℕ → ℕ → List ℕ
in_quarters before after = created positive_derating 15 45 (part_of 15 30 before ∷ part_of 30 45 after ∷ [])

-- 17. "for each minute of a reported record of types 2–4 that forced work and deratings of one direction share"
abbrev pub shared_minutes : List Bool
shared_minutes =
    -- the first minute, and the last
    gives 0 (unit_w ++ held (in_two 16 20000 0)) (forced 180000)
    ∷ gives 17 (unit_w ++ held (in_two 16 20001 0)) (forced 180000)
    ∷ gives 0 (unit_w ++ held (in_two 29 0 20000)) (forced 180000)
    ∷ gives 17 (unit_w ++ held (in_two 29 0 20001)) (forced 180000)
    ∷ gives 0 (unit_w ++ held (levelled forced_work 15 45 180000)) (in_quarters 20000 20000)
    ∷ gives 17 (unit_w ++ held (levelled forced_work 15 45 180000)) (in_quarters 20000 20001)
    ∷ gives 17 (unit_w ++ held (levelled forced_work 15 45 180000)) (in_quarters 20001 20000)
    -- none shared
    ∷ gives 0 (unit_w ++ held (positive 200000)) (levelled forced_work 30 45 180000)
    ∷ gives 0 (unit_w ++ held (levelled positive_derating 30 45 200000)) (forced 180000)
    -- one shared
    ∷ gives 17 (unit_w ++ held (levelled positive_derating 29 45 200000)) (forced 180000)
    ∷ gives 17 (unit_w ++ held (levelled positive_derating 0 16 200000)) (forced 180000)
    -- minutes before the stamp, of a live derating
    ∷ gives 17 (unit_w ++ held (levelled positive_derating 5 30 200000)) (levelled forced_work 5 15 180000 but mark executed)
    ∷ gives 17 (unit_w ++ held (positive 20001)) (levelled forced_work 5 45 180000 but mark executed but stamp 29)
    ∷ gives 0 (unit_w ++ held (positive 20001)) (levelled forced_work 5 45 180000 but mark executed but stamp 30)
    -- the changed slot is gone
    ∷ gives 0 (unit_w ++ slot_of (forced 180000)) (changed (levelled forced_work 30 45 180000))
    ∷ []

-- all six codes in one state: the answers
abbrev pub events : ℕ → ℕ → ℕ → ℕ → ℕ → ℕ → ℕ → ℕ → List Bool
events state q one two three four five six =
    gives one (unit_w but row state q 0) (event_at 1 10)
    ∷ gives two (unit_w but row state q 0) (event_at 2 10)
    ∷ gives three (unit_w but row state q 0) (event_at 3 10)
    ∷ gives four (unit_w but row state q 0) (event_at 4 10)
    ∷ gives five (unit_w but row state q 0) (event_at 5 10)
    ∷ gives six (unit_w but row state q 0) (event_at 6 10)
    ∷ []

-- 18. "Events: 1 R→RO; 2 RO→U1; 3 U1→U2 and RP→P; 4 U2→P; 5 P, RP→R; 6 RO, U1, U2→R." Where a transition leads stands with the
-- block afterwards.
abbrev pub transitions : List Bool
transitions =
    events R 1 0 18 18 18 18 18 ++ events RO 0 18 0 18 18 18 0 ++ events U1 0 18 18 0 18 18 0
    ++ events U2 0 18 18 18 0 18 0 ++ events P 0 18 18 18 18 0 18 ++ events RP 1 18 18 0 18 0 18

-- 18. "W1, for an event, or a stop or off-grid record that this report begins: is start > since"
abbrev pub begins : List Bool
begins =
    gives 18 (unit_w but row P 0 5) (event_at 5 5)
    ∷ gives 0 (unit_w but row P 0 5) (event_at 5 6)
    ∷ gives 18 (unit_w but row P 0 5) (begun_stop 1 5 30)
    ∷ gives 0 (unit_w but row P 0 5) (begun_stop 1 6 30)
    ∷ gives 18 (unit_w but row P 0 5) (off_grid_at 1 5 30)
    ∷ gives 0 (unit_w but row P 0 5) (off_grid_at 1 6 30)
    -- "A begun stop leads to R from every state, from R only with another qualification."
    ∷ gives 0 (unit_w but row RO 0 0) (begun_stop 1 5 30)
    ∷ gives 0 (unit_w but row U1 0 0) (begun_stop 1 5 30)
    ∷ gives 0 (unit_w but row U2 0 0) (begun_stop 1 5 30)
    ∷ gives 0 (unit_w but row RP 1 0) (begun_stop 1 5 30)
    ∷ gives 18 (unit_w but row R 1 0) (begun_stop 1 5 30)
    ∷ gives 0 (unit_w but row R 2 0) (begun_stop 1 5 30)
    ∷ gives 0 (unit_w but row R 8 0) (begun_stop 1 5 30)
    -- "Off-grid: P→RP."
    ∷ gives 18 (unit_w but row R 1 0) (off_grid_at 2 5 30)
    ∷ gives 18 (unit_w but row RO 0 0) (off_grid_at 1 5 30)
    ∷ gives 18 (unit_w but row U1 0 0) (off_grid_at 1 5 30)
    ∷ gives 18 (unit_w but row U2 0 0) (off_grid_at 1 5 30)
    ∷ gives 18 (unit_w but row RP 1 0) (off_grid_at 2 5 30)
    -- "that this report begins": a planned one that is begun, not a begun one that is changed, nor a planned one
    ∷ gives 18 (unit_w but row P 0 5 ++ slot_of (planned_stop 1 15 30)) (changed (begun_stop 1 5 30))
    ∷ gives 0 (unit_w but row P 0 4 ++ slot_of (planned_stop 1 15 30)) (changed (begun_stop 1 5 30))
    ∷ gives 0 (unit_w but row R 1 5 ++ slot_of (begun_stop 1 5 30)) (changed (begun_stop 1 5 45))
    ∷ gives 0 (unit_w but row RP 1 5 ++ slot_of (off_grid_at 1 5 30)) (changed (off_grid_at 1 5 45))
    ∷ gives 0 (unit_w but row R 1 5) (planned_stop 1 15 30)
    ∷ gives 0 (unit_w but row P 0 5) (levelled positive_derating 5 30 20000 but mark executed)
    -- "W1"
    ∷ gives 0 (unit_m but row 0 0 5) (begun_stop 1 5 30)
    ∷ gives 0 (unit_z but row 0 0 5) (begun_stop 1 5 30)
    ∷ gives 0 (unit_a but row 0 0 5) (begun_stop 1 5 30)
    ∷ []

-- eight live deratings from D+15 on, a quarter hour each
abbrev pub crowded : List ℕ
crowded = joined (λ i. slot_of (levelled positive_derating (15 * i) (15 * i + 15) 20000 but identifier (i + 1))) 1 8

-- seven of them, and an off-grid record
abbrev pub crowded_off_grid : List ℕ
crowded_off_grid = joined (λ i. slot_of (levelled positive_derating (15 * i) (15 * i + 15) 20000 but identifier (i + 1))) 1 7
    ++ slot_of (off_grid_at 1 5 30 but identifier 9)

-- 19. "Create, types 1–5: is a slot free, after those that leave?"
abbrev pub room : List Bool
room =
    gives 19 (unit_w ++ crowded) (planned_stop 1 15 30)
    ∷ gives 0 (unit_w ++ crowded) (planned_stop 1 45 60 but stamp 30)
    ∷ gives 19 (unit_w but row RP 1 5 ++ crowded_off_grid) (planned_stop 1 15 30)
    ∷ gives 0 (unit_w but row RP 1 5 ++ crowded_off_grid) (begun_stop 1 6 30)
    -- the last slot counts for 12 and 15; a change wants no slot
    ∷ gives 15 (unit_w ++ crowded) (levelled positive_derating 120 135 20000)
    ∷ gives 19 (unit_w ++ crowded) (levelled positive_derating 135 150 20000)
    ∷ gives 0 (unit_w ++ crowded) (changed (levelled positive_derating 135 150 20000) but identifier 9)
    ∷ []
