-- A form told line by line: whether each line is spelled as it is written. This says the same as `is_form_of`, by the proofs, so that
-- nothing here has to be believed.
use Rattle.std.specs.Prelude.{◌≡◌, ℕ, ◌+◌, Bool, true, ◌&&◌, ◌||◌, List, ◌++◌, length, eqb, leb}
use Rattle.fields.specs.Lists.{pick, part, same_list}
use Rattle.fields.specs.Ascii.{ascii}
use Rattle.forms.specs.Values.{line, number_line, date_line, hex_text}
use Rattle.form_reading.specs.declared.CodeLines.{CodeLines}
use Rattle.form_reading.specs.declared.MarkLines.{MarkLines}
use Rattle.form_reading.specs.declared.DateLines.{DateLines}
use Rattle.form_reading.specs.Reading.{is_digit}

-- x stands in s at `at`
abbrev pub stands : List ℕ → List ℕ → ℕ → Bool
stands x s at = same_list x (part s at (length x))

-- `spelled` tells whether x stands in s at `at`, and where it does, `next` is the place after it
pub record Told (x s : List ℕ) (at : ℕ) (spelled : Bool) (next : ℕ) : Type 0 where
  pub told : spelled ≡ stands x s at
  pub after : spelled ≡ true → next ≡ at + length x

-- digits are spelled as a number is: there is a first one, and it is no 0 unless it is the only one
unfoldable pub is_plain : ℕ → Bool → Bool
is_plain first only_one = pick (eqb first 48) only_one (is_digit first)

-- 0 to 9 and a to f
abbrev pub is_hex : ℕ → Bool
is_hex c = is_digit c || (leb 97 c && leb c 102)

-- the lines of a head, by what was read of each
abbrev pub code_text : CodeLines → List ℕ
code_text c =
    number_line (ascii "unit=") c.unit ++ number_line (ascii "owner=") c.owner ++ number_line (ascii "type=") c.record_type
    ++ number_line (ascii "operation=") c.operation ++ number_line (ascii "direction=") c.direction

abbrev pub mark_text : MarkLines → List ℕ
mark_text m =
    number_line (ascii "start_mark=") m.start_mark ++ number_line (ascii "end_mark=") m.end_mark
    ++ number_line (ascii "qualification=") m.qualification ++ number_line (ascii "ordinal=") m.ordinal
    ++ line (ascii "identifier=") (hex_text m.identifier)

abbrev pub date_text : DateLines → List ℕ
date_text d =
    date_line (ascii "stamp=") d.stamp ++ date_line (ascii "start=") d.period.start ++ date_line (ascii "end=") d.period.end
