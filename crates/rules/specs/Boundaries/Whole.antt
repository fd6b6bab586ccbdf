-- Question 1, clause by clause, and question 20: bytes that are whole, and with one field altered are not.
use Rattle.std.specs.Prelude.{ℕ, ◌+◌, List, [], ◌∷◌, ◌++◌, Bool, true, not, replicate}
use Rattle.fields.specs.Lists.{part}
use Rattle.rules.specs.Codes.{positive_derating, W1, M1, Z1, A, R, RO, U1, U2, P, RP}
use Rattle.rules.specs.Roster.{entry_good, pieces_pass, roster_good}
use Rattle.rules.specs.Block.{zeros, unit_head, record_in, parts_in}
use Rattle.rules.specs.Whole.{head_in_range, record_holds, slot_whole, slots_apart, block_whole, register_whole}
use Rattle.rules.specs.Samples.{D, minute, ◌but◌, byte, half, word, direction, identifier, created, levelled, planned_stop, begun_stop, slot_of, entry_bytes}
use Rattle.rules.specs.Boundaries.Tests.{entry_w, entry_m, entry_z, entry_a, roster_b, unit_w, unit_m, row, positive, negative, forced, off_grid_at, held}
use Rattle.rules.specs.Boundaries.Form.{last_time, no_time, stepped, minutes}

abbrev pub good : List ℕ → Bool
good entry = entry_good entry

abbrev pub bad : List ℕ → Bool
bad entry = not (entry_good entry)

abbrev pub in_w : List ℕ
in_w = entry_bytes entry_w

abbrev pub in_m : List ℕ
in_m = entry_bytes entry_m

-- a W1 entry in this state, with this qualification
abbrev pub in_state : ℕ → ℕ → List ℕ
in_state state q = in_w but byte 5 state but byte 6 q

-- 20. "Roster entry, 28 bytes: mark 4A 47; owner u16 (1–999); kind u8 (1 W1 .. 4 A); .. zero u8; .. Pmin ≤ Pmax; the consumption
-- pair is
-- 0 for W1 and Z1."
abbrev pub entries : List Bool
entries =
    good in_w
    ∷ good in_m
    ∷ good (entry_bytes entry_z)
    ∷ good (entry_bytes entry_a)
    ∷ bad (in_w but byte 0 0)
    ∷ bad (in_w but byte 1 0)
    ∷ bad (in_w but half 2 0)
    ∷ good (in_w but half 2 1)
    ∷ good (in_w but half 2 999)
    ∷ bad (in_w but half 2 1000)
    ∷ bad (in_m but byte 4 0)
    ∷ bad (in_m but byte 4 5)
    ∷ bad (in_w but byte 7 1)
    -- "States, W1 only: 1 R .. 6 RP off-grid work; 0 for other kinds."
    ∷ bad (in_state 0 0)
    ∷ good (in_state RO 0)
    ∷ good (in_state U1 0)
    ∷ good (in_state U2 0)
    ∷ bad (in_state 7 0)
    ∷ bad (in_m but byte 5 P)
    ∷ bad (entry_bytes entry_z but byte 5 P)
    ∷ bad (entry_bytes entry_a but byte 5 P)
    -- "A unit in R has qualification 1–8, one in RP 1–5, all others 0."
    ∷ bad (in_state R 0)
    ∷ good (in_state R 1)
    ∷ good (in_state R 8)
    ∷ bad (in_state R 9)
    ∷ bad (in_state RP 0)
    ∷ good (in_state RP 1)
    ∷ good (in_state RP 5)
    ∷ bad (in_state RP 6)
    ∷ bad (in_state RO 1)
    ∷ bad (in_state U1 1)
    ∷ bad (in_state U2 1)
    ∷ bad (in_state P 1)
    ∷ bad (in_m but byte 6 1)
    -- since is a time
    ∷ good (in_w but word 8 last_time)
    ∷ bad (in_w but word 8 no_time)
    -- powers
    ∷ good (in_w but word 12 99999999)
    ∷ bad (in_w but word 12 100000000)
    ∷ good (in_w but word 16 200000)
    ∷ bad (in_w but word 16 200001)
    ∷ good (in_m but word 20 99999999)
    ∷ bad (in_m but word 20 100000000)
    ∷ good (in_m but word 24 150000)
    ∷ bad (in_m but word 24 150001)
    ∷ bad (in_w but word 20 1)
    ∷ bad (in_w but word 24 1)
    ∷ bad (entry_bytes entry_z but word 20 1)
    ∷ bad (entry_bytes entry_z but word 24 1)
    ∷ []

-- 20. "is the roster 1 to 64 good entries?"; 1. "1 to 64 blocks"
abbrev pub pieces : List Bool
pieces =
    roster_good roster_b
    ∷ not (roster_good [])
    ∷ not (roster_good (roster_b ++ (0 ∷ [])))
    ∷ not (roster_good (in_w ++ (in_m but half 2 0)))
    ∷ not (roster_good ((in_w but half 2 0) ++ in_m))
    ∷ not (register_whole [])
    ∷ pieces_pass 2 (λ u p. true) (replicate 128 0)
    ∷ not (pieces_pass 2 (λ u p. true) (replicate 130 0))
    ∷ not (pieces_pass 2 (λ u p. true) (replicate 127 0))
    ∷ []

abbrev pub head_holds : List ℕ → Bool
head_holds b = head_in_range (unit_head b)

-- 1. "head fields in the roster's ranges, since ≤ last stamp, a time"
abbrev pub heads : List Bool
heads =
    head_holds unit_w
    ∷ head_holds unit_m
    ∷ not (head_holds (unit_w but half 4 0))
    ∷ head_holds (unit_w but half 4 999)
    ∷ not (head_holds (unit_w but half 4 1000))
    ∷ not (head_holds (unit_m but byte 6 5))
    ∷ not (head_holds (unit_w but row 7 0 0))
    ∷ head_holds (unit_w but row R 8 0)
    ∷ not (head_holds (unit_w but row R 9 0))
    ∷ not (head_holds (unit_w but word 20 100000000))
    ∷ not (head_holds (unit_w but word 24 200001))
    ∷ not (head_holds (unit_w but word 28 1))
    ∷ head_holds (unit_w but row P 0 10)
    ∷ not (head_holds (unit_w but row P 0 11))
    ∷ head_holds (unit_w but word 16 last_time)
    ∷ not (head_holds (unit_w but word 16 no_time))
    ∷ []

-- a slot's record on a unit of the kind with last stamp D+10
abbrev pub holds_on : ℕ → List ℕ → Bool
holds_on kind z = record_holds kind (minute 10) (record_in z) (parts_in z)

abbrev pub fails : ℕ → List ℕ → Bool
fails kind z = not (holds_on kind z)

abbrev pub derating : List ℕ
derating = slot_of (positive 20000)

abbrev pub stop_planned : List ℕ
stop_planned = slot_of (planned_stop 1 15 30)

abbrev pub stop_begun : List ℕ
stop_begun = slot_of (begun_stop 1 5 30)

-- 1. "slots of types 1–5 whose fields pass 4, 5, 8 and 9, type 5 begun, start < end, .. slot stamp ≤ last stamp, begun start ≤ slot
-- stamp"
abbrev pub records : List Bool
records =
    holds_on W1 derating
    ∷ holds_on W1 stop_planned
    ∷ holds_on W1 stop_begun
    -- "types 1–5"
    ∷ fails W1 (derating but byte 2 0)
    ∷ fails W1 (stop_begun but byte 2 0 but byte 4 0)
    ∷ holds_on W1 (stop_begun but byte 2 5)
    ∷ fails W1 (stop_begun but byte 2 6)
    -- 4
    ∷ fails M1 (derating but byte 3 0)
    ∷ holds_on M1 (derating but byte 3 2)
    ∷ fails M1 (derating but byte 3 4)
    ∷ fails W1 (derating but byte 4 1)
    ∷ fails W1 (stop_planned but byte 4 0)
    ∷ holds_on W1 (stop_planned but byte 4 7)
    ∷ fails W1 (stop_planned but byte 4 8)
    ∷ fails W1 (slot_of (off_grid_at 6 5 30))
    ∷ holds_on W1 (slot_of (off_grid_at 5 5 30))
    ∷ fails W1 (derating but byte 5 0)
    ∷ fails W1 (derating but byte 5 3)
    ∷ fails W1 (derating but half 6 0)
    ∷ holds_on W1 (derating but half 6 9999)
    ∷ fails W1 (derating but half 6 10000)
    ∷ holds_on W1 (stop_planned but word 32 last_time)
    ∷ fails W1 (stop_planned but word 32 no_time)
    ∷ record_holds W1 (record { 0 = no_time }) (record_in (stop_planned but word 24 last_time)) []
    ∷ not (record_holds W1 (record { 0 = no_time }) (record_in (stop_planned but word 24 no_time)) [])
    -- 5
    ∷ fails W1 (derating but byte 3 2)
    ∷ fails Z1 (derating but byte 3 2)
    ∷ fails M1 (derating but byte 3 3)
    ∷ holds_on M1 (stop_planned but byte 3 3)
    ∷ fails M1 (slot_of (off_grid_at 5 5 30))
    ∷ holds_on M1 (slot_of (forced 100000))
    ∷ fails A (slot_of (forced 100000))
    -- 8
    ∷ fails W1 (derating but half 36 0)
    ∷ fails W1 (derating but byte 2 1 but byte 4 1)
    ∷ fails W1 (derating but word 88 (D + 29))
    ∷ fails W1 (derating but word 88 (D + 31))
    ∷ holds_on W1 (slot_of stepped but word 88 (D + 44))
    ∷ fails W1 (slot_of stepped but word 88 (D + 45))
    ∷ holds_on W1 (slot_of stepped but word 88 (D + 16))
    ∷ fails W1 (slot_of stepped but word 88 (D + 15))
    -- 9
    ∷ holds_on W1 (derating but word 92 99999999)
    ∷ fails W1 (derating but word 92 100000000)
    ∷ fails W1 (derating but word 92 0xFFFFFFFF)
    -- "type 5 begun, start < end"
    ∷ fails W1 (slot_of (off_grid_at 5 5 30) but byte 5 1)
    ∷ holds_on W1 (stop_planned but word 32 (D + 16))
    ∷ fails W1 (stop_planned but word 32 (D + 15))
    -- "slot stamp ≤ last stamp, begun start ≤ slot stamp"
    ∷ holds_on W1 (stop_planned but word 24 (D + 10))
    ∷ fails W1 (stop_planned but word 24 (D + 11))
    ∷ holds_on W1 (stop_begun but word 28 (D + 10))
    ∷ fails W1 (stop_begun but word 28 (D + 11))
    -- the list is complete: a planned start not after the stamp, an end not after it
    ∷ holds_on W1 (stop_planned but word 28 (D + 5))
    ∷ holds_on W1 (stop_begun but word 32 (D + 9))
    ∷ []

abbrev pub apart : List ℕ → List ℕ → Bool
apart x y = slots_apart (slot_of x) (held y)

-- 1. "identifiers distinct in a unit, .. no two used slots of one type with meeting directions overlapping"
abbrev pub pairs : List Bool
pairs =
    apart (positive 20000) (negative 20000)
    ∷ not (slots_apart (slot_of (positive 20000)) (slot_of (negative 20000)))
    ∷ slots_apart (slot_of (positive 20000)) (slot_of (negative 20000) but byte 8 2)
    ∷ slots_apart (slot_of (positive 20000)) (slot_of (negative 20000) but byte 23 2)
    ∷ slots_apart [] []
    ∷ slots_apart (slot_of (positive 20000 but identifier 0)) []
    ∷ slots_apart [] (slot_of (positive 20000 but identifier 0))
    ∷ not (apart (positive 20000) (positive 20000))
    ∷ apart (positive 20000) (levelled positive_derating 30 45 20000)
    ∷ not (apart (positive 20000) (levelled positive_derating 29 45 20000))
    ∷ apart (positive 20000) (levelled positive_derating 0 15 20000)
    ∷ not (apart (positive 20000) (levelled positive_derating 0 16 20000))
    ∷ apart (positive 20000) (positive 20000 but direction 2)
    ∷ not (apart (planned_stop 1 15 30 but direction 3) (planned_stop 1 15 30 but direction 2))
    -- dead ones too, and begun stops too
    ∷ not (apart (levelled positive_derating 0 5 20000) (levelled positive_derating 0 5 20000))
    ∷ not (apart (begun_stop 1 5 30) (begun_stop 1 6 30))
    ∷ []

-- a slot of 90 parts, which leaves 80 zeros
abbrev pub full : List ℕ
full = slot_of (created positive_derating 0 90 (minutes 90))

abbrev pub broken : List ℕ → Bool
broken z = not (slot_whole W1 (minute 10) z)

-- 1. "A free slot is 888 zeros."; "38 zero; from 88 k pairs .., then zeros"; one that is whole stands in the register below
abbrev pub slots : List Bool
slots =
    broken (full but byte 38 1)
    ∷ broken (full but byte 87 1)
    ∷ broken (full but byte 808 1)
    ∷ broken (full but byte 887 1)
    ∷ broken (full but half 6 0)
    ∷ broken (zeros 888 but byte 0 0x5A)
    ∷ broken (zeros 888 but byte 1 0x47)
    ∷ broken (zeros 888 but byte 2 1)
    ∷ broken (zeros 888 but byte 887 1)
    ∷ []

-- a register of one unit: a derating in slot 0, and the others given
abbrev pub register : List ℕ → List ℕ
register others = unit_w ++ derating ++ others

abbrev pub sound : List ℕ
sound = register (zeros 5328 ++ held (negative 20000))

-- 1. "Is the register whole: 1 to 64 blocks, layout"; "block i for unit i"
abbrev pub blocks : List Bool
blocks =
    register_whole sound
    ∷ not (register_whole (part sound 0 7167))
    ∷ not (register_whole (sound ++ (0 ∷ [])))
    ∷ not (block_whole 1 (part sound 0 7167))
    ∷ not (register_whole (sound but byte 0 0))
    ∷ not (register_whole (sound but byte 1 0))
    ∷ not (register_whole (sound but half 2 0))
    ∷ not (register_whole (sound but half 2 2))
    ∷ not (register_whole (sound but byte 9 1))
    ∷ not (register_whole (sound but byte 11 1))
    ∷ not (register_whole (sound but byte 36 1))
    ∷ not (register_whole (sound but byte 63 1))
    ∷ not (register_whole (sound but half 4 0))
    -- the first slot, the last one; slots 0 and 7, slots 0 and 1
    ∷ not (register_whole (sound but byte 102 1))
    ∷ not (register_whole (sound but byte 6318 1))
    ∷ not (register_whole (register (zeros 5328 ++ slot_of (negative 20000))))
    ∷ not (register_whole (register (held (positive 20000) ++ zeros 5328)))
    ∷ []
