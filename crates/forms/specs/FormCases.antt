-- 02, A4, "Reports written from a form": reports and their forms, written out; then for each clause what just passes and what just fails.
use Rattle.std.specs.Prelude.{ℕ, ◌≡◌, Bool, not, eqb, List, [], ◌∷◌, ◌++◌, ℤ, pos, neg_ℤ, length, replicate, Result, Ok, Err}
use Prim.Native.String.{String}
use Rattle.fields.specs.Ascii.{ascii}
use Rattle.fields.specs.Lists.{put}
use Rattle.report.specs.declared.Part.{Part}
use Rattle.report.specs.Report.{head_of, parts_of}
use Rattle.rules.specs.Codes.{stop, positive_derating, negative_derating, forced_work, change, withdraw, executed}
use Rattle.rules.specs.Samples.{period, part_of, ◌but◌, half, unit, owner, operation, direction, mark, with_end_mark, qualification, ordinal, stamp, created, planned_stop, begun_stop, event_at}
use Rattle.rules.specs.Cases.{derating}
use Rattle.forms.specs.declared.FormError.{FormError}
use Rattle.forms.specs.declared.FormError.TheVariants.{NoForm, NoRoom}
use Rattle.forms.specs.Form.{has_form, resolution_of}
use Rattle.forms.specs.Lent.{length_given, buffer_after, form_written}

-- lines, each with its line feed
abbrev pub lines : List String → List ℕ
lines [] = []
lines (l ∷ ls) = ascii l ++ (10 ∷ lines ls)

-- a text for a report that has none
abbrev pub text : List ℕ → List ℕ → List ℕ
text t s = half 44 (length t) s ++ t

-- sixteen bytes in which every hex digit stands, and the halves of most bytes differ
abbrev pub mixed : List ℕ → List ℕ
mixed s =
    put s 16
    (0x00 ∷ 0x01 ∷ 0x12 ∷ 0x23 ∷ 0x34 ∷ 0x45 ∷ 0x56 ∷ 0x67 ∷ 0x78 ∷ 0x89 ∷ 0x9A ∷ 0xAB ∷ 0xBC ∷ 0xCD ∷ 0xDE ∷ 0xEF ∷ [])

abbrev pub powered : ℕ → ℕ → ℤ → Part
powered start end power = record { period = period start end; power = record { 0 = power } }

-- the first report of roster A's log: the form with which docs/FORM.md begins
abbrev pub first_form : List String
first_form =
    "unit=1"
    ∷ "owner=7"
    ∷ "type=2"
    ∷ "operation=1"
    ∷ "direction=1"
    ∷ "start_mark=1"
    ∷ "end_mark=1"
    ∷ "qualification=0"
    ∷ "ordinal=1"
    ∷ "identifier=01010101010101010101010101010101"
    ∷ "stamp=2026-03-01 00:10"
    ∷ "start=2026-03-01 01:00"
    ∷ "end=2026-03-01 02:00"
    ∷ "resolution=60"
    ∷ "point=1 20000"
    ∷ "text="
    ∷ []

-- "A report without parts has no resolution line."
abbrev pub changed_stop : List ℕ
changed_stop =
    begun_stop 7 5 180 but unit 64 but owner 999 but operation change but direction 3 but ordinal 9999 but stamp 25 but mixed
    but text (ascii "boiler = out, ~2 h\\n ")

abbrev pub stop_form : List String
stop_form =
    "unit=64"
    ∷ "owner=999"
    ∷ "type=1"
    ∷ "operation=2"
    ∷ "direction=3"
    ∷ "start_mark=2"
    ∷ "end_mark=1"
    ∷ "qualification=7"
    ∷ "ordinal=9999"
    ∷ "identifier=000112233445566778899aabbccddeef"
    ∷ "stamp=2026-03-01 00:25"
    ∷ "start=2026-03-01 00:05"
    ∷ "end=2026-03-01 03:00"
    ∷ "text=boiler = out, ~2 h\\n "
    ∷ []

abbrev pub event_form : List String
event_form =
    "unit=1"
    ∷ "owner=7"
    ∷ "type=6"
    ∷ "operation=1"
    ∷ "direction=1"
    ∷ "start_mark=2"
    ∷ "end_mark=1"
    ∷ "qualification=5"
    ∷ "ordinal=1"
    ∷ "identifier=00000000000000000000000000000000"
    ∷ "stamp=2026-03-01 00:10"
    ∷ "start=2026-03-01 00:09"
    ∷ "end=2026-03-01 00:09"
    ∷ "text="
    ∷ []

-- "Each part gives one position, even where its value equals the one before"; "a hyphen and a number"
abbrev pub stepped_derating : List ℕ
stepped_derating =
    created negative_derating 0 75
    (powered 0 15 (pos 5000)
    ∷ powered 15 30 (pos 5000)
    ∷ powered 30 60 (neg_ℤ (pos 1))
    ∷ powered 60 65 (neg_ℤ (pos 2147483648))
    ∷ powered 65 70 (pos 2147483647)
    ∷ powered 70 75 (pos 0)
    ∷ [])
    but operation change but direction 2 but with_end_mark 2 but stamp 90 but text (ascii " ")

abbrev pub stepped_form : List String
stepped_form =
    "unit=1"
    ∷ "owner=7"
    ∷ "type=3"
    ∷ "operation=2"
    ∷ "direction=2"
    ∷ "start_mark=1"
    ∷ "end_mark=2"
    ∷ "qualification=0"
    ∷ "ordinal=1"
    ∷ "identifier=01010101010101010101010101010101"
    ∷ "stamp=2026-03-01 01:30"
    ∷ "start=2026-03-01 00:00"
    ∷ "end=2026-03-01 01:15"
    ∷ "resolution=5"
    ∷ "point=1 5000"
    ∷ "point=4 5000"
    ∷ "point=7 -1"
    ∷ "point=13 -2147483648"
    ∷ "point=14 2147483647"
    ∷ "point=15 0"
    ∷ "text= "
    ∷ []

pub record AreWritten : Type 0 where
  pub first : form_written derating ≡ Ok (lines first_form)
  pub stopped : form_written changed_stop ≡ Ok (lines stop_form)
  pub event : form_written (event_at 5 9 but stamp 10) ≡ Ok (lines event_form)
  pub stepped : form_written stepped_derating ≡ Ok (lines stepped_form)

abbrev pub planned : List ℕ
planned = planned_stop 1 60 120

-- which reports have a form
abbrev pub formed : List Bool
formed =
    has_form derating
    ∷ has_form planned
    ∷ has_form (event_at 5 10)
    -- "unit 1 to 64 and owner 1 to 999"
    ∷ not (has_form (planned but unit 0))
    ∷ has_form (planned but unit 64)
    ∷ not (has_form (planned but unit 65))
    ∷ not (has_form (planned but owner 0))
    ∷ has_form (planned but owner 1)
    ∷ has_form (planned but owner 999)
    ∷ not (has_form (planned but owner 1000))
    -- "whose text is printable ASCII"
    ∷ not (has_form (planned but text (0x1F ∷ [])))
    ∷ has_form (planned but text (0x20 ∷ []))
    ∷ has_form (planned but text (0x7E ∷ []))
    ∷ not (has_form (planned but text (0x7F ∷ [])))
    ∷ not (has_form (planned but text (0x41 ∷ 0x0A ∷ [])))
    ∷ not (has_form (planned but text (0x80 ∷ 0x41 ∷ [])))
    ∷ has_form (planned but text (replicate 200 0x41))
    -- "each whole report"
    ∷ not (has_form (planned ++ (0x41 ∷ [])))
    ∷ not (has_form [])
    ∷ not (has_form (planned but text (replicate 201 0x41)))
    -- "that passes questions 4 ..": question 6, which asks for the order of its times, and question 7 are not among them
    ∷ has_form (planned but qualification 7)
    ∷ not (has_form (planned but qualification 8))
    ∷ not (has_form (planned but ordinal 0))
    ∷ has_form (planned but stamp 300)
    ∷ has_form (planned but mark executed)
    -- ".. and 8"
    ∷ not (has_form (created positive_derating 60 120 (part_of 60 119 20000 ∷ [])))
    ∷ not (has_form (created positive_derating 60 120 []))
    ∷ has_form (created positive_derating 61 118 (part_of 61 118 20000 ∷ []))
    ∷ not (has_form (created stop 60 120 (part_of 60 120 20000 ∷ []) but qualification 1))
    ∷ has_form (created positive_derating 60 120 [] but operation withdraw)
    ∷ not (has_form (derating but operation withdraw))
    ∷ []

-- a record that starts there, with parts up to these minutes
abbrev pub parts_to : ℕ → List ℕ → List Part
parts_to start [] = []
parts_to start (end ∷ ends) = part_of start end 1 ∷ parts_to end ends

-- the last of them
abbrev pub last : ℕ → List ℕ → ℕ
last start [] = start
last start (end ∷ ends) = last end ends

abbrev pub resolution : ℕ → List ℕ → ℕ → Bool
resolution start ends step =
    let s = created forced_work start (last start ends) (parts_to start ends) in
    eqb (resolution_of (head_of s) (parts_of s)) step

-- "a resolution of 1,440, 60, 15, 5 or 1 minutes, on which every part's start and the period's end fall; the writer picks the coarsest"
abbrev pub resolutions : List Bool
resolutions =
    resolution 0 (1440 ∷ []) 1440
    ∷ resolution 0 (2880 ∷ []) 1440
    ∷ resolution 0 (1439 ∷ []) 1
    ∷ resolution 0 (1441 ∷ []) 1
    ∷ resolution 0 (1380 ∷ []) 60
    ∷ resolution 0 (720 ∷ []) 60
    ∷ resolution 0 (60 ∷ []) 60
    ∷ resolution 0 (59 ∷ []) 1
    ∷ resolution 0 (75 ∷ []) 15
    ∷ resolution 0 (30 ∷ []) 15
    ∷ resolution 0 (15 ∷ []) 15
    ∷ resolution 0 (20 ∷ []) 5
    ∷ resolution 0 (10 ∷ []) 5
    ∷ resolution 0 (5 ∷ []) 5
    ∷ resolution 0 (6 ∷ []) 1
    ∷ resolution 0 (1 ∷ []) 1
    -- minutes after the record's start
    ∷ resolution 7 (1447 ∷ []) 1440
    ∷ resolution 7 (1440 ∷ []) 1
    ∷ resolution 7 (22 ∷ []) 15
    -- every part's start
    ∷ resolution 0 (1440 ∷ 2880 ∷ []) 1440
    ∷ resolution 0 (60 ∷ 1440 ∷ []) 60
    ∷ resolution 0 (60 ∷ 75 ∷ 1440 ∷ []) 15
    ∷ resolution 0 (60 ∷ 65 ∷ 1440 ∷ []) 5
    ∷ resolution 0 (61 ∷ 75 ∷ 1440 ∷ []) 1
    ∷ []

-- three bytes for a lent buffer of bytes 7
abbrev pub three : Result (List ℕ) FormError
three = Ok (1 ∷ 2 ∷ 3 ∷ [])

abbrev pub lent : ℕ → List ℕ
lent n = replicate n 7

-- "a report without a form is 25, then no room in the lent buffer is 43"
pub record RoomIsAsked : Type 0 where
  pub short : (length_given three (lent 2) ≡ Err NoRoom) × (buffer_after three (lent 2) ≡ lent 2)
  pub exact : (length_given three (lent 3) ≡ Ok 3) × (buffer_after three (lent 3) ≡ 1 ∷ 2 ∷ 3 ∷ [])
  pub more : (length_given three (lent 5) ≡ Ok 3) × (buffer_after three (lent 5) ≡ 1 ∷ 2 ∷ 3 ∷ 7 ∷ 7 ∷ [])
  pub no_form : (form_written (planned but unit 65) ≡ Err NoForm) × (form_written [] ≡ Err NoForm)
  pub no_form_first : length_given (Err NoForm) [] ≡ Err NoForm
  pub no_form_keeps : buffer_after (Err NoForm) (lent 4) ≡ lent 4
