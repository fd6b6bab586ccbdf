-- What worked cases are written with: a sample report, slot, head or roster entry, and the fields in which a case differs from it.
use Rattle.std.specs.Prelude.{ℕ, ◌+◌, List, [], ◌∷◌, ◌++◌, pos, length, replicate}
use Rattle.fields.specs.Fields.{bytes_of}
use Rattle.fields.specs.Lists.{put}
use Rattle.quantities.specs.declared.Minute.{Minute}
use Rattle.quantities.specs.declared.Period.{Period}
use Rattle.report.specs.declared.Part.{Part}
use Rattle.report.specs.Report.{parts_of}
use Rattle.report.specs.Encoded.{encode_report}
use Rattle.rules.specs.declared.Powers.{Powers}
use Rattle.rules.specs.declared.RosterEntry.{RosterEntry}
use Rattle.rules.specs.Codes.{stop, event, create, generation, planned, executed}
use Rattle.rules.specs.Roster.{entry_mark}
use Rattle.rules.specs.Block.{powers_bytes}
use Rattle.rules.specs.Questions.{record_of}
use Rattle.rules.specs.After.{slot_bytes}

infixl 70 ◌but◌
-- "D is 13,760,640, which is 2026-03-01 00:00."
abbrev pub D : ℕ
D = 13760640

abbrev pub minute : ℕ → Minute
minute m = record { 0 = D + m }

abbrev pub period : ℕ → ℕ → Period
period start end = record { start = minute start; end = minute end }

abbrev pub part_of : ℕ → ℕ → ℕ → Part
part_of start end power = record { period = period start end; power = record { 0 = pos power } }

-- a sample, but with one more field altered
abbrev pub ◌but◌ : List ℕ → (List ℕ → List ℕ) → List ℕ
s but altered = altered s

-- one, two or four bytes at an offset become n
abbrev pub byte : ℕ → ℕ → List ℕ → List ℕ
byte at n s = put s at (n ∷ [])

abbrev pub half : ℕ → ℕ → List ℕ → List ℕ
half at n s = put s at (bytes_of 2 n)

abbrev pub word : ℕ → ℕ → List ℕ → List ℕ
word at n s = put s at (bytes_of 4 n)

-- "Report head, 48 bytes, offsets: 0 mark 52 50; 2 unit u16; 4 owner u16; 6 type u8; 7 operation u8; 8 direction u8; 9 start
-- mark u8;
-- 10 end mark u8; 11 qualification u8; 12 ordinal u16; .. 16 identifier, 16 bytes; 32 stamp; 36 start; 40 end, u32 each"
abbrev pub unit : ℕ → List ℕ → List ℕ
unit n s = half 2 n s

abbrev pub owner : ℕ → List ℕ → List ℕ
owner n s = half 4 n s

abbrev pub type : ℕ → List ℕ → List ℕ
type n s = byte 6 n s

abbrev pub operation : ℕ → List ℕ → List ℕ
operation n s = byte 7 n s

abbrev pub direction : ℕ → List ℕ → List ℕ
direction n s = byte 8 n s

abbrev pub mark : ℕ → List ℕ → List ℕ
mark n s = byte 9 n s

abbrev pub with_end_mark : ℕ → List ℕ → List ℕ
with_end_mark n s = byte 10 n s

abbrev pub qualification : ℕ → List ℕ → List ℕ
qualification n s = byte 11 n s

abbrev pub ordinal : ℕ → List ℕ → List ℕ
ordinal n s = half 12 n s

-- its bytes all n
abbrev pub identifier : ℕ → List ℕ → List ℕ
identifier n s = put s 16 (replicate 16 n)

-- minutes after D
abbrev pub stamp : ℕ → List ℕ → List ℕ
stamp m s = word 32 (D + m) s

abbrev pub start : ℕ → List ℕ → List ℕ
start m s = word 36 (D + m) s

abbrev pub end : ℕ → List ℕ → List ℕ
end m s = word 40 (D + m) s

-- owner 7's report on unit 1 with stamp D+10: create, direction 1, planned, ordinal 1, identifier bytes all 1, without text
abbrev pub created : ℕ → ℕ → ℕ → List Part → List ℕ
created type start end parts =
    encode_report (record {
      unit = 1;
      owner = 7;
      record_type = record { 0 = type };
      operation = record { 0 = create };
      direction = record { 0 = generation };
      start_mark = record { 0 = planned };
      end_mark = record { 0 = planned };
      qualification = 0;
      ordinal = 1;
      part_count = length parts;
      identifier = replicate 16 1;
      stamp = minute 10;
      period = period start end;
      text_length = 0;
    })
    parts
    []

-- a derating or forced work in one part
abbrev pub levelled : ℕ → ℕ → ℕ → ℕ → List ℕ
levelled type start end power = created type start end (part_of start end power ∷ [])

abbrev pub planned_stop : ℕ → ℕ → ℕ → List ℕ
planned_stop q start end = created stop start end [] but qualification q

abbrev pub begun_stop : ℕ → ℕ → ℕ → List ℕ
begun_stop q start end = planned_stop q start end but mark executed

abbrev pub event_at : ℕ → ℕ → List ℕ
event_at code start = created event start start [] but mark executed but qualification code but identifier 0

-- the slot that an accepted report takes
abbrev pub slot_of : List ℕ → List ℕ
slot_of s = slot_bytes (record_of s) (parts_of s)

-- "Roster entry, 28 bytes: mark 4A 47; owner u16 ..; kind u8 ..; state u8; qualification u8; zero u8; since u32; Pmax and Pmin .."
unfoldable pub entry_bytes : RosterEntry → List ℕ
entry_bytes e =
    bytes_of 2 entry_mark ++ bytes_of 2 e.owner ++ (e.kind.0 ∷ e.row.state.0 ∷ e.row.qualification ∷ 0 ∷ [])
    ++ bytes_of 4 e.row.since.0 ++ powers_bytes e.powers

abbrev pub powers_of : ℕ → ℕ → ℕ → ℕ → Powers
powers_of max min consumption_max consumption_min = record {
  generation = record { max = record { 0 = max }; min = record { 0 = min } };
  consumption = record { max = record { 0 = consumption_max }; min = record { 0 = consumption_min } };
}

-- an owner's unit of a kind, in this state since D
abbrev pub entry_for : ℕ → ℕ → ℕ → Powers → RosterEntry
entry_for owner kind state powers = record {
  owner = owner;
  kind = record { 0 = kind };
  row = record { state = record { 0 = state }; qualification = 0; since = minute 0 };
  powers = powers;
}
