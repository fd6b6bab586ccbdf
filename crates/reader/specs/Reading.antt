-- "The shift log goes through a report with a reader that holds the report and its place": what is read at a place, and where the
-- reader then stands.
use Rattle.std.specs.Prelude.{ℕ, ◌+◌, List, leb, eqb}
use Rattle.std.specs.Borrow.{Bor}
use Rattle.fields.specs.Fields.{uint_at}
use Rattle.fields.specs.Lists.{pick}
use Rattle.report.specs.Report.{head_of}
use Rattle.reader.specs.declared.Cursor.{Cursor}
use Rattle.reader.specs.declared.LineHead.{LineHead}
use Rattle.reader.specs.declared.Reader.{Reader}
use Rattle.reader.specs.declared.Taken.{Taken}

-- the highest number that a place can be
abbrev pub highest : ℕ
highest = 18446744073709551615

-- the place n bytes on, and the cursor there
unfoldable pub place_past : ℕ → ℕ → ℕ
place_past place n = pick (leb (place + n) highest) (place + n) highest

abbrev pub cursor_past : Cursor → ℕ → Cursor
cursor_past c n = record { place = place_past c.place n }

-- a number is two bytes wide or four
abbrev pub bytes_wide : ℕ → ℕ
bytes_wide width = pick (eqb width 2) 2 4

-- the number that begins `gap` bytes on, and the cursor after it
abbrev pub taken : List ℕ → Cursor → ℕ → ℕ → Taken
taken s c gap width = record {
  value = uint_at (bytes_wide width) s (cursor_past c gap).place;
  next = cursor_past (cursor_past c gap) (bytes_wide width);
}

abbrev pub at_first : Cursor
at_first = record { place = 0 }

abbrev pub reader_at : Bor (List ℕ) → Cursor → Reader
reader_at report c = record { report = report; cursor = c }

-- what a reader takes, and the reader after it
abbrev pub taken_here : Reader → ℕ → ℕ → Taken
taken_here r gap width = taken r.report.now r.cursor gap width

abbrev pub moved_on : Reader → ℕ → ℕ → Reader
moved_on r gap width = reader_at r.report (taken_here r gap width).next

-- the head's fields that a line of the log shows, and those that say the report's length
abbrev pub line_head : List ℕ → LineHead
line_head s = record {
  unit = (head_of s).unit;
  part_count = (head_of s).part_count;
  stamp = (head_of s).stamp;
  text_length = (head_of s).text_length;
}
