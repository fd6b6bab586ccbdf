-- Codes, sizes and the bytes of each record, as paper 01 prints them; question 2.
use Rattle.std.specs.Prelude.{ℕ, List, [], ◌∷◌, ◌++◌, Bool, not, eqb, length, replicate}
use Rattle.fields.specs.Lists.{part}
use Rattle.quantities.specs.Quantities.{is_time, is_power, overlap}
use Rattle.report.specs.Report.{head_of, parts_of, sized, whole}
use Rattle.report.specs.Encoded.{encode_report}
use Rattle.rules.specs.Codes.{stop, positive_derating, negative_derating, forced_work, off_grid, event, is_levelled, create, change, withdraw, generation, both_directions, meet, planned, executed, W1, M1, Z1, A, R, RO, U1, U2, P, RP, RE}
use Rattle.rules.specs.Roster.{entry_size, entry_of}
use Rattle.rules.specs.Block.{head_size, slot_size, slot_count, block_size, unit_head, head_bytes, fresh_block, record_in, parts_in}
use Rattle.rules.specs.After.{slot_bytes}
use Rattle.rules.specs.Samples.{period, ◌but◌, byte, half, created, slot_of, entry_bytes}
use Rattle.rules.specs.Boundaries.Tests.{positive, same_bytes}
use Rattle.rules.specs.Boundaries.Form.{minutes}

-- "Types: 1 stop, 2 positive derating, 3 negative derating, 4 forced work, 5 off-grid work, 6 event. Operations: 1 create, 2
-- change,
-- 3 withdraw. Directions: 1 generation, 2 consumption, 3 both. .. Marks: 1 planned, 2 executed." "kind u8 (1 W1, 2 M1, 3 Z1, 4 A)"
-- "1 R stop, 2 RO boiler lit, 3 U1 and 4 U2 .., 5 P work, 6 RP off-grid work" "8 RE"
abbrev pub codes : List Bool
codes =
    same_bytes (1 ∷ 2 ∷ 3 ∷ 4 ∷ 5 ∷ 6 ∷ []) (stop ∷ positive_derating ∷ negative_derating ∷ forced_work ∷ off_grid ∷ event ∷ [])
    ∷ same_bytes (1 ∷ 2 ∷ 3 ∷ []) (create ∷ change ∷ withdraw ∷ [])
    ∷ same_bytes (1 ∷ 3 ∷ 1 ∷ 2 ∷ []) (generation ∷ both_directions ∷ planned ∷ executed ∷ [])
    ∷ same_bytes (1 ∷ 2 ∷ 3 ∷ 4 ∷ []) (W1 ∷ M1 ∷ Z1 ∷ A ∷ [])
    ∷ same_bytes (1 ∷ 2 ∷ 3 ∷ 4 ∷ 5 ∷ 6 ∷ 8 ∷ []) (R ∷ RO ∷ U1 ∷ U2 ∷ P ∷ RP ∷ RE ∷ [])
    ∷ same_bytes (28 ∷ 64 ∷ 888 ∷ 8 ∷ 7168 ∷ []) (entry_size ∷ head_size ∷ slot_size ∷ slot_count ∷ block_size ∷ [])
    ∷ not (is_levelled 1)
    ∷ is_levelled 2
    ∷ is_levelled 4
    ∷ not (is_levelled 5)
    -- "Two directions meet if equal or if one is 3."
    ∷ meet 1 1
    ∷ meet 2 2
    ∷ not (meet 1 2)
    ∷ not (meet 2 1)
    ∷ meet 1 3
    ∷ meet 3 2
    ∷ meet 3 3
    -- "0 to 26,298,719"; "0 to 99,999,999"; "A period is from start up to, not including, end."
    ∷ is_time (record { 0 = 26298719 })
    ∷ not (is_time (record { 0 = 26298720 }))
    ∷ is_power (record { 0 = 99999999 })
    ∷ not (is_power (record { 0 = 100000000 }))
    ∷ overlap (period 0 2) (period 1 3)
    ∷ overlap (period 1 3) (period 0 2)
    ∷ not (overlap (period 0 1) (period 1 2))
    ∷ not (overlap (period 1 2) (period 0 1))
    ∷ []

-- "Roster entry, 28 bytes: mark 4A 47; owner u16 ..; kind u8 ..; state u8; qualification u8; zero u8; since u32; Pmax and Pmin for
-- generation, then for consumption, u32 each."
abbrev pub entry_as_bytes : List ℕ
entry_as_bytes =
    0x4A ∷ 0x47 ∷ 0x12 ∷ 0x11 ∷ 0x13 ∷ 0x14 ∷ 0x15 ∷ 0 ∷ 0x24 ∷ 0x23 ∷ 0x22 ∷ 0x21
    ∷ 0x34 ∷ 0x33 ∷ 0x32 ∷ 0x31 ∷ 0x44 ∷ 0x43 ∷ 0x42 ∷ 0x41 ∷ 0x54 ∷ 0x53 ∷ 0x52 ∷ 0x51 ∷ 0x64 ∷ 0x63 ∷ 0x62 ∷ 0x61 ∷ []

-- "Head: 0 mark 55 4E; 2 unit u16; 4 owner u16; 6 kind; 7 state; 8 qualification; 9 zero; 12 since u32; 16 last stamp u32; 20 four
-- powers; 36 zero."; "Set-up writes row and powers from the roster, last stamp = since"
abbrev pub head_as_bytes : List ℕ
head_as_bytes =
    0x55 ∷ 0x4E ∷ 0x02 ∷ 0x01 ∷ 0x12 ∷ 0x11 ∷ 0x13 ∷ 0x14 ∷ 0x15 ∷ 0 ∷ 0 ∷ 0 ∷ 0x24 ∷ 0x23 ∷ 0x22 ∷ 0x21 ∷ 0x24 ∷ 0x23 ∷ 0x22 ∷ 0x21
    ∷ 0x34 ∷ 0x33 ∷ 0x32 ∷ 0x31 ∷ 0x44 ∷ 0x43 ∷ 0x42 ∷ 0x41 ∷ 0x54 ∷ 0x53 ∷ 0x52 ∷ 0x51 ∷ 0x64 ∷ 0x63 ∷ 0x62 ∷ 0x61 ∷ replicate 28 0

abbrev pub identifier_as_bytes : List ℕ
identifier_as_bytes =
    0xA0 ∷ 0xA1 ∷ 0xA2 ∷ 0xA3 ∷ 0xA4 ∷ 0xA5 ∷ 0xA6 ∷ 0xA7 ∷ 0xA8 ∷ 0xA9 ∷ 0xAA ∷ 0xAB ∷ 0xAC ∷ 0xAD ∷ 0xAE ∷ 0xAF ∷ []

-- "Report head, 48 bytes, offsets: 0 mark 52 50; 2 unit u16; .. 44 text length t u16; 46 zero u16. Then k parts of 16 bytes:
-- mark 50 4B,
-- zero u16, start u32, end u32, signed kW i32. Then mark 54 58 and t bytes of text."
abbrev pub report_as_bytes : List ℕ
report_as_bytes =
    0x52 ∷ 0x50 ∷ 0x02 ∷ 0x01 ∷ 0x04 ∷ 0x03 ∷ 0x05 ∷ 0x06 ∷ 0x07 ∷ 0x08 ∷ 0x09 ∷ 0x0A ∷ 0x0C ∷ 0x0B ∷ 2 ∷ 0 ∷ []
    ++ identifier_as_bytes
    ++ (0x24 ∷ 0x23 ∷ 0x22 ∷ 0x21 ∷ 0x34 ∷ 0x33 ∷ 0x32 ∷ 0x31 ∷ 0x44 ∷ 0x43 ∷ 0x42 ∷ 0x41 ∷ 3 ∷ 0 ∷ 0 ∷ 0 ∷ [])
    ++ (0x50 ∷ 0x4B ∷ 0 ∷ 0 ∷ 0x34 ∷ 0x33 ∷ 0x32 ∷ 0x31 ∷ 0x54 ∷ 0x53 ∷ 0x52 ∷ 0x51 ∷ 0x64 ∷ 0x63 ∷ 0x62 ∷ 0x61 ∷ [])
    ++ (0x50 ∷ 0x4B ∷ 0 ∷ 0 ∷ 0x54 ∷ 0x53 ∷ 0x52 ∷ 0x51 ∷ 0x44 ∷ 0x43 ∷ 0x42 ∷ 0x41 ∷ 0x74 ∷ 0x73 ∷ 0x72 ∷ 0x71 ∷ [])
    ++ (0x54 ∷ 0x58 ∷ 0x20 ∷ 0x21 ∷ 0x22 ∷ [])

-- "Slot: 0 mark 5A 47; 2 type; 3 direction; 4 qualification; 5 start mark; 6 ordinal u16; 8 identifier; 24 stamp; 28 start; 32
-- end; 36
-- k u16; 38 zero; from 88 k pairs (part end u32, kW u32), then zeros."
abbrev pub slot_as_bytes : List ℕ
slot_as_bytes =
    0x5A ∷ 0x47 ∷ 0x05 ∷ 0x07 ∷ 0x0A ∷ 0x08 ∷ 0x0C ∷ 0x0B ∷ []
    ++ identifier_as_bytes
    ++ (0x24 ∷ 0x23 ∷ 0x22 ∷ 0x21 ∷ 0x34 ∷ 0x33 ∷ 0x32 ∷ 0x31 ∷ 0x44 ∷ 0x43 ∷ 0x42 ∷ 0x41 ∷ 2 ∷ 0 ∷ [])
    ++ replicate 50 0
    ++ (0x54 ∷ 0x53 ∷ 0x52 ∷ 0x51 ∷ 0x64 ∷ 0x63 ∷ 0x62 ∷ 0x61 ∷ 0x44 ∷ 0x43 ∷ 0x42 ∷ 0x41 ∷ 0x74 ∷ 0x73 ∷ 0x72 ∷ 0x71 ∷ [])

-- "All fields are little-endian"
abbrev pub bytes : List Bool
bytes =
    same_bytes entry_as_bytes (entry_bytes (entry_of entry_as_bytes))
    ∷ same_bytes head_as_bytes (fresh_block 0x0102 (entry_of entry_as_bytes))
    ∷ eqb (length (fresh_block 0x0102 (entry_of entry_as_bytes))) 7168
    ∷ same_bytes head_as_bytes (head_bytes (unit_head head_as_bytes))
    ∷ same_bytes report_as_bytes (encode_report (head_of report_as_bytes) (parts_of report_as_bytes) (0x20 ∷ 0x21 ∷ 0x22 ∷ []))
    ∷ eqb (head_of report_as_bytes).unit 0x0102
    ∷ eqb (head_of report_as_bytes).owner 0x0304
    ∷ eqb (head_of report_as_bytes).operation.0 6
    ∷ eqb (head_of report_as_bytes).end_mark.0 9
    ∷ eqb (head_of report_as_bytes).part_count 2
    ∷ eqb (head_of report_as_bytes).text_length 3
    ∷ same_bytes slot_as_bytes (slot_of report_as_bytes)
    ∷ eqb (length (slot_of report_as_bytes)) 888
    ∷ same_bytes slot_as_bytes (slot_bytes (record_in slot_as_bytes) (parts_in slot_as_bytes))
    ∷ []

-- 2. "Is the report whole: length, two-byte marks, zeros, k ≤ 100, t ≤ 200?"
abbrev pub whole_reports : List Bool
whole_reports =
    whole report_as_bytes
    ∷ not (whole [])
    -- "Length 50 + 16k + t"
    ∷ not (whole (report_as_bytes ++ (0 ∷ [])))
    ∷ not (whole (part report_as_bytes 0 84))
    -- "two-byte marks"
    ∷ not (whole (report_as_bytes but byte 0 0))
    ∷ not (whole (report_as_bytes but byte 1 0))
    ∷ not (whole (report_as_bytes but byte 48 0))
    ∷ not (whole (report_as_bytes but byte 49 0))
    ∷ not (whole (report_as_bytes but byte 64 0))
    ∷ not (whole (report_as_bytes but byte 65 0))
    ∷ not (whole (report_as_bytes but byte 80 0))
    ∷ not (whole (report_as_bytes but byte 81 0))
    -- "zeros"
    ∷ not (whole (report_as_bytes but byte 46 1))
    ∷ not (whole (report_as_bytes but byte 47 1))
    ∷ not (whole (report_as_bytes but byte 50 1))
    ∷ not (whole (report_as_bytes but byte 51 1))
    ∷ not (whole (report_as_bytes but byte 66 1))
    ∷ not (whole (report_as_bytes but byte 67 1))
    -- "k ≤ 100, t ≤ 200"
    ∷ sized (created 2 0 100 (minutes 100))
    ∷ not (sized (created 2 0 101 (minutes 101)))
    ∷ whole (positive 20000 but half 44 200 ++ replicate 200 0)
    ∷ not (whole (positive 20000 but half 44 201 ++ replicate 201 0))
    ∷ []
