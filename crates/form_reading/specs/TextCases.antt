-- 02, A4: texts that are read, and texts that come close to a form and are the form of no report, each the first form but for one place.
use Rattle.std.specs.Prelude.{ℕ, ◌+◌, ◌≡◌, List, [], ◌∷◌, ◌++◌, take, drop, Ok}
use Prim.Native.String.{String}
use Rattle.fields.specs.Ascii.{ascii}
use Rattle.rules.specs.Samples.{◌but◌, stamp, event_at}
use Rattle.rules.specs.Cases.{derating}
use Rattle.forms.specs.FormCases.{lines, first_form, changed_stop, stop_form, event_form, stepped_derating, stepped_form}
use Rattle.form_reading.specs.Reading.{form_read}
use Rattle.forms.specs.Lent.{no_report}

-- line n, from 0, is another one
abbrev pub with : ℕ → String → List ℕ
with n line = lines (take n first_form ++ (line ∷ drop (n + 1) first_form))

-- the lines from n on are others
abbrev pub up_to : ℕ → List String → List ℕ
up_to n others = lines (take n first_form ++ others)

abbrev pub texts_refused : List (List ℕ)
texts_refused =
    []
    -- zeros in front, a sign, a blank, no digits; a number that is 1 but for a multiple of 65,536 or of 256
    ∷ with 0 "unit=01"
    ∷ with 0 "unit=+1"
    ∷ with 0 "unit= 1"
    ∷ with 0 "unit="
    ∷ with 0 "unit=65537"
    ∷ with 2 "type=258"
    ∷ with 7 "qualification=00"
    ∷ with 7 "qualification=-0"
    -- its range
    ∷ with 0 "unit=0"
    ∷ with 0 "unit=65"
    ∷ with 1 "owner=0"
    ∷ with 1 "owner=1000"
    -- names, and what follows them
    ∷ with 0 "Unit=1"
    ∷ with 0 "unit 1"
    ∷ with 0 " unit=1"
    ∷ with 5 "end_mark=1"
    ∷ with 14 "part=1 20000"
    -- identifiers and dates
    ∷ with 9 "identifier=0101010101010101010101010101010"
    ∷ with 9 "identifier=010101010101010101010101010101010"
    ∷ with 12 "end=2026-03-01T02:00"
    ∷ with 12 "end=2026-02-29 02:00"
    ∷ with 12 "end=2026-03-01 2:00"
    ∷ with 12 "end=2026-03-01 01:60"
    -- a finer resolution, a coarser one, and one that is none of the five
    ∷ with 13 "resolution=15"
    ∷ with 13 "resolution=1"
    ∷ with 13 "resolution=1440"
    ∷ with 13 "resolution=30"
    -- positions and powers
    ∷ with 14 "point=0 20000"
    ∷ with 14 "point=01 20000"
    ∷ with 14 "point=2 20000"
    ∷ with 14 "point=1 020000"
    ∷ with 14 "point=1 +20000"
    ∷ with 14 "point=1  20000"
    ∷ with 14 "point=1 4294987296"
    ∷ up_to 14 ("point=1 20000" ∷ "point=1 20000" ∷ "text=" ∷ [])
    ∷ up_to 14 ("point=1 20000" ∷ "point=2 20000" ∷ "text=" ∷ [])
    -- a line that is missing, one too many, and two in the other order
    ∷ up_to 13 ("text=" ∷ [])
    ∷ up_to 14 ("text=" ∷ [])
    ∷ up_to 13 ("point=1 20000" ∷ "text=" ∷ [])
    ∷ up_to 15 []
    ∷ up_to 15 ("text=" ∷ "text=" ∷ [])
    ∷ lines ("" ∷ first_form)
    ∷ lines ("owner=7" ∷ "unit=1" ∷ drop 2 first_form)
    -- line ends
    ∷ with 0 "unit=1\r"
    ∷ with 15 "text=\r"
    ∷ (ascii "unit=1\r" ++ lines (drop 1 first_form))
    ∷ (lines first_form ++ (10 ∷ []))
    ∷ (up_to 15 [] ++ ascii "text=")
    -- a text that is not printable
    ∷ with 15 "text=\t"
    ∷ (up_to 15 [] ++ (ascii "text=" ++ (0xC3 ∷ 0xA9 ∷ 10 ∷ [])))
    ∷ []

abbrev pub AreRefused : List (List ℕ) → Type 0
AreRefused [] = Unit {0}
AreRefused (text ∷ texts) = (form_read text ≡ no_report) × AreRefused texts

-- a stamp or a start that is no date
abbrev pub dates_refused : List (List ℕ)
dates_refused =
    with 10 "stamp=2026-03-01T00:10"
    ∷ with 10 "stamp=2026-03-01 24:10"
    ∷ with 10 "stamp=2026-02-29 00:10"
    ∷ with 11 "start=2026-03-01 00:60"
    ∷ []

-- the worked forms give their reports back
pub record AreReadBack : Type 0 where
  pub first : form_read (lines first_form) ≡ Ok derating
  pub stopped : form_read (lines stop_form) ≡ Ok changed_stop
  pub event : form_read (lines event_form) ≡ Ok (event_at 5 9 but stamp 10)
  pub stepped : form_read (lines stepped_form) ≡ Ok stepped_derating
