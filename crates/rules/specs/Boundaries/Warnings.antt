-- "Warnings, added up, judge only the reported record, 1 to 4 against the block afterwards; events and withdrawals carry 0".
use Rattle.std.specs.Prelude.{ℕ, List, [], ◌∷◌, ◌++◌, Bool, true, not, Option, None, Some}
use Rattle.quantities.specs.declared.Kilowatt.{Kilowatt}
use Rattle.report.specs.Report.{head_of}
use Rattle.rules.specs.declared.Levels.{Levels}
use Rattle.rules.specs.Codes.{positive_derating, negative_derating, forced_work, executed, W1, R, RP}
use Rattle.rules.specs.Minutes.{above_max, below_min}
use Rattle.rules.specs.After.{warns_overlap, warns_minute, warns_left}
use Rattle.rules.specs.Samples.{part_of, ◌but◌, direction, mark, identifier, stamp, created, levelled, planned_stop, begun_stop, event_at, slot_of}
use Rattle.rules.specs.Boundaries.Tests.{entry_w, unit_w, unit_m, unit_z, unit_a, row, positive, negative, forced, brief, off_grid_at, held, changed, withdrawn, warns}

-- warnings 1, 2 and 4 with the block afterwards written out: the page, and the reported record in its last slot
abbrev pub warns1 : List ℕ → List ℕ → Bool
warns1 page s = warns_overlap (page ++ slot_of s) (head_of s)

abbrev pub warns2 : List ℕ → List ℕ → Bool
warns2 page s = warns_minute above_max (page ++ slot_of s) (head_of s)

abbrev pub warns4 : List ℕ → List ℕ → Bool
warns4 page s = warns_minute below_min (page ++ slot_of s) (head_of s)

-- "1 a derating or forced work overlaps a stop with meeting direction, whichever is reported"
abbrev pub warning1 : List Bool
warning1 =
    warns1 (unit_w ++ held (planned_stop 1 15 30)) (positive 20000)
    ∷ warns1 (unit_w ++ held (planned_stop 1 15 30)) (negative 20000)
    ∷ warns1 (unit_w ++ held (planned_stop 1 15 30)) (forced 100000)
    ∷ warns1 (unit_w ++ held (positive 20000)) (planned_stop 1 15 30)
    ∷ warns1 (unit_w ++ held (negative 20000)) (planned_stop 1 15 30)
    ∷ warns1 (unit_w ++ held (forced 100000)) (planned_stop 1 15 30)
    ∷ warns1 (unit_w ++ held (begun_stop 1 5 30)) (positive 20000)
    -- "overlaps"
    ∷ warns1 (unit_w ++ held (planned_stop 1 29 45)) (positive 20000)
    ∷ not (warns1 (unit_w ++ held (planned_stop 1 30 45)) (positive 20000))
    ∷ warns1 (unit_w ++ held (planned_stop 1 0 16)) (positive 20000)
    ∷ not (warns1 (unit_w ++ held (planned_stop 1 0 15)) (positive 20000))
    -- "a stop": nothing else gives it, off-grid records neither give nor get it
    ∷ not (warns1 (unit_w ++ held (negative 20000)) (positive 20000))
    ∷ not (warns1 (unit_w ++ held (off_grid_at 1 5 30)) (positive 20000))
    ∷ not (warns1 (unit_w ++ held (positive 20000)) (off_grid_at 1 5 30))
    ∷ not (warns1 (unit_w ++ held (planned_stop 1 15 30)) (off_grid_at 1 5 30))
    ∷ not (warns1 (unit_w ++ held (planned_stop 1 15 30)) (planned_stop 2 15 30))
    -- "with meeting direction"
    ∷ not (warns1 (unit_m ++ held (planned_stop 1 15 30)) (positive 20000 but direction 2))
    ∷ warns1 (unit_m ++ held (planned_stop 1 15 30 but direction 2)) (positive 20000 but direction 2)
    ∷ warns1 (unit_m ++ held (planned_stop 1 15 30 but direction 3)) (positive 20000 but direction 2)
    ∷ warns1 (unit_m ++ held (positive 20000)) (planned_stop 1 15 30 but direction 3)
    ∷ not (warns1 (unit_m ++ held (positive 20000)) (planned_stop 1 15 30 but direction 2))
    -- "judge only the reported record"
    ∷ not (warns1 (unit_w ++ held (planned_stop 1 15 30) ++ held (positive 20000)) (levelled forced_work 30 45 100000))
    ∷ []

-- forced work of two begun minutes, a level each
abbrev pub two_levels : ℕ → ℕ → List ℕ
two_levels before after = created forced_work 13 15 (part_of 13 14 before ∷ part_of 14 15 after ∷ []) but mark executed but stamp 14

abbrev pub level : ℕ → Option Kilowatt
level power = Some (record { 0 = power })

abbrev pub levels : Option Kilowatt → Option Kilowatt → Option Kilowatt → Levels
levels forced positive negative = record { forced = forced; positive = positive; negative = negative }

-- "2 forced level above Pmax (Z1: Pmax − Pmin) in a minute without positive derating of its direction"
abbrev pub warning2 : List Bool
warning2 =
    not (warns2 unit_w (brief forced_work 200000))
    ∷ warns2 unit_w (brief forced_work 200001)
    ∷ not (warns2 unit_m (brief forced_work 190000))
    ∷ warns2 unit_m (brief forced_work 190001)
    ∷ not (warns2 unit_m (brief forced_work 150000 but direction 2))
    ∷ warns2 unit_m (brief forced_work 150001 but direction 2)
    ∷ not (warns2 unit_z (brief forced_work 40000))
    ∷ warns2 unit_z (brief forced_work 40001)
    -- a minute: the first one, or the last
    ∷ warns2 unit_w (two_levels 200001 100000)
    ∷ warns2 unit_w (two_levels 100000 200001)
    -- question 17 leaves no such level beside a positive derating, so the definition alone tells
    ∷ warns2 (unit_w ++ held (brief negative_derating 0)) (brief forced_work 200001)
    ∷ above_max W1 entry_w.powers.generation (levels (level 200001) None None)
    ∷ not (above_max W1 entry_w.powers.generation (levels (level 200001) (level 0) None))
    ∷ not (above_max W1 entry_w.powers.generation (levels None None None))
    -- "judge only the reported record"
    ∷ not (warns2 (unit_w ++ held (brief forced_work 200001)) (brief negative_derating 0))
    ∷ not (warns2 (unit_w ++ held (brief forced_work 200001)) (forced 100000))
    ∷ []

-- "4, W1 and M1, below Pmin without negative"
abbrev pub warning4 : List Bool
warning4 =
    not (warns4 unit_w (brief forced_work 80000))
    ∷ warns4 unit_w (brief forced_work 79999)
    ∷ not (warns4 unit_m (brief forced_work 70000))
    ∷ warns4 unit_m (brief forced_work 69999)
    ∷ not (warns4 unit_m (brief forced_work 60000 but direction 2))
    ∷ warns4 unit_m (brief forced_work 59999 but direction 2)
    ∷ not (warns4 unit_z (brief forced_work 0))
    ∷ warns4 (unit_w ++ held (brief positive_derating 0)) (brief forced_work 79999)
    ∷ below_min W1 entry_w.powers.generation (levels (level 79999) None None)
    ∷ not (below_min W1 entry_w.powers.generation (levels (level 79999) None (level 0)))
    ∷ not (below_min W1 entry_w.powers.generation (levels None None None))
    ∷ not (warns4 (unit_w ++ held (brief forced_work 79999)) (brief positive_derating 0))
    ∷ []

-- in state R since D+5, with the begun stop that led there; in state RP, with the off-grid record
abbrev pub stopped : List ℕ
stopped = unit_w but row R 1 5 ++ held (begun_stop 1 5 30)

abbrev pub off_the_grid : List ℕ
off_the_grid = unit_w but row RP 1 5 ++ held (off_grid_at 1 5 30)

-- "8 a reported stop made another live begun stop or off-grid record leave"
abbrev pub warning8 : List Bool
warning8 =
    not (warns_left unit_w (begun_stop 1 6 30))
    ∷ warns_left stopped (begun_stop 2 6 30)
    ∷ warns_left off_the_grid (begun_stop 2 6 30)
    -- on other kinds by question 15 alone
    ∷ warns_left (unit_m ++ held (begun_stop 1 5 30)) (begun_stop 1 6 30)
    ∷ warns_left (unit_m ++ held (begun_stop 1 5 30 but direction 2)) (begun_stop 1 6 30 but direction 3)
    ∷ not (warns_left (unit_m ++ held (begun_stop 1 5 30)) (begun_stop 1 6 30 but direction 2))
    ∷ warns_left (unit_z ++ held (begun_stop 1 5 30)) (begun_stop 1 6 30)
    ∷ warns_left (unit_a ++ held (begun_stop 1 5 30 but direction 3)) (begun_stop 1 6 30)
    -- "live"
    ∷ warns_left stopped (begun_stop 2 6 45 but stamp 29)
    ∷ not (warns_left stopped (begun_stop 2 6 45 but stamp 30))
    -- "begun stop or off-grid record"
    ∷ not (warns_left (unit_w ++ held (planned_stop 1 45 60)) (begun_stop 2 6 30))
    ∷ not (warns_left (unit_w ++ held (levelled positive_derating 5 30 0 but mark executed)) (begun_stop 2 6 30))
    ∷ not (warns_left off_the_grid (planned_stop 2 15 30))
    -- "a reported stop": not an event, not an off-grid record
    ∷ not (warns_left off_the_grid (event_at 5 10))
    ∷ not (warns_left (unit_w ++ held (begun_stop 1 5 30)) (off_grid_at 1 6 30))
    -- by a change too, where it begins the stop
    ∷ warns_left (off_the_grid ++ slot_of (planned_stop 2 30 45)) (changed (begun_stop 2 6 45))
    ∷ not (warns_left (unit_w but row R 2 6 ++ slot_of (begun_stop 2 6 30) ++ held (off_grid_at 1 5 30)) (changed (begun_stop 2 6 45)))
    ∷ []

-- "added up", from the report to the sum
abbrev pub added_up : List Bool
added_up =
    warns 0 unit_w (forced 200000)
    ∷ warns 2 unit_w (forced 200001)
    ∷ warns 4 unit_w (forced 79999)
    ∷ warns 6 unit_w (two_levels 79999 200001)
    ∷ warns 1 (unit_w ++ held (planned_stop 1 15 30)) (positive 20000)
    ∷ warns 7 (unit_w ++ held (planned_stop 1 0 30)) (two_levels 79999 200001)
    ∷ warns 8 stopped (begun_stop 2 6 30)
    ∷ warns 9 (stopped ++ slot_of (positive 20000 but identifier 3)) (begun_stop 2 6 30)
    -- "events and withdrawals carry 0"
    ∷ warns 0 off_the_grid (event_at 5 10)
    ∷ warns 0 (unit_w ++ slot_of (positive 20000) ++ held (planned_stop 1 15 30)) (withdrawn positive_derating 15 30)
    -- "against the block afterwards": a derating that is dead at the stamp, a changed record's old period
    ∷ warns 1 (unit_w ++ held (positive 20000)) (begun_stop 1 5 45 but stamp 29)
    ∷ warns 0 (unit_w ++ held (positive 20000)) (begun_stop 1 5 45 but stamp 30)
    ∷ warns 0 (unit_w ++ slot_of (positive 20000) ++ held (planned_stop 1 15 30)) (changed (levelled positive_derating 30 45 20000))
    ∷ warns 1 (unit_w ++ slot_of (positive 20000) ++ held (planned_stop 1 30 45)) (changed (levelled positive_derating 30 45 20000))
    ∷ warns 0 (unit_w ++ slot_of (forced 200001)) (changed (forced 200000))
    ∷ []
