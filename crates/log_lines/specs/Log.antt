-- Paper 01, "The shift log": a report's line and the totals, as ASCII.
use Rattle.std.specs.Prelude.{ℕ, ◌+◌, Bool, not, ◌&&◌, List, [], ◌∷◌, ◌++◌, eqb}
use Rattle.fields.specs.Lists.{pick}
use Rattle.quantities.specs.declared.Minute.{Minute}
use Rattle.quantities.specs.Quantities.{is_time}
use Rattle.calendar.specs.Calendar.{date_of, date_text}
use Rattle.report.specs.Report.{head_of}
use Rattle.rules.specs.declared.Answer.{Answer}
use Rattle.log_lines.specs.declared.Totals.{Totals}
use Rattle.fields.specs.Ascii.{ascii}
use Rattle.texts.specs.Numerals.{decimal, space, line_feed, hyphen}

abbrev pub header_text : List ℕ
header_text = ascii "no unit answer warn part stamp"

abbrev pub log_header : List ℕ
log_header = header_text ++ line_feed

-- the header of a log with one title more
abbrev pub header_with : List ℕ → List ℕ
header_with title = header_text ++ title ++ line_feed

-- "A roster fault, an entry cut short being 20, prints only "roster" and its number."
unfoldable pub fault_line : ℕ → List ℕ
fault_line number = ascii "roster " ++ decimal number ++ line_feed

-- what a set-up on a file prints
unfoldable pub set_up_line : ℕ → List ℕ
set_up_line units = ascii "units set up: " ++ decimal units ++ line_feed

-- "Unit and stamp are "-" after refusal 2; a stamp out of range is "-"."
unfoldable pub unit_text : ℕ → ℕ → List ℕ
unit_text number unit = pick (eqb number 2) hyphen (decimal unit)

unfoldable pub stamp_text : ℕ → Minute → List ℕ
stamp_text number stamp = pick (not (eqb number 2) && is_time stamp) (date_text (date_of stamp)) hyphen

abbrev pub number_column : ℕ → List ℕ
number_column n = decimal n ++ space

-- a report's line without its line feed; 02, A1: "the log gets a column "part" after "warn", in header and lines"
unfoldable pub line_text : ℕ → List ℕ → Answer → List ℕ
line_text line s a =
    number_column line ++ (unit_text a.number (head_of s).unit ++ space) ++ number_column a.number ++ number_column a.warnings
    ++ number_column a.part ++ stamp_text a.number (head_of s).stamp

abbrev pub log_line : ℕ → List ℕ → Answer → List ℕ
log_line line s a = line_text line s a ++ line_feed

-- the line of a log with one column more
abbrev pub line_with : (List ℕ → List ℕ) → ℕ → List ℕ → Answer → List ℕ
line_with column line s a = line_text line s a ++ (column s ++ line_feed)

abbrev pub is_clean : Answer → Bool
is_clean a = eqb a.number 0 && eqb a.warnings 0

abbrev pub is_warned : Answer → Bool
is_warned a = eqb a.number 0 && not (eqb a.warnings 0)

abbrev pub is_refused : Answer → Bool
is_refused a = not (eqb a.number 0)

-- how many answers pass the test
unfoldable pub count_of : (Answer → Bool) → List Answer → ℕ
count_of test [] = 0
count_of test (a ∷ rest) = pick (test a) 1 0 + count_of test rest

-- "Totals: clean, warned, refused."
abbrev pub totals_of : List Answer → Totals
totals_of answers = record {
  clean = count_of is_clean answers;
  warned = count_of is_warned answers;
  refused = count_of is_refused
      answers;
}

-- "total 2 1 2"
unfoldable pub totals_line : Totals → List ℕ
totals_line t =
    ascii "total " ++ number_column t.clean ++ number_column t.warned ++ decimal t.refused ++ line_feed
