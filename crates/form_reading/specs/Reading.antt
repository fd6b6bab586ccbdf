-- Paper 02, A4: the report of a form. The lines are taken in their order, as far as they say something, and what they give is the
-- form's report if it has this form: a text that is written otherwise is the form of no report. `forms_are_read_back` says that this
-- finds every form's report, so that nothing else here has to be believed.
use Rattle.std.specs.Prelude.{ℕ, zero, suc, ◌+◌, ◌-◌, ◌*◌, ◌%◌, min, Bool, not, ◌&&◌, List, length, leb, eqb, Result, Ok, Err}
use Rattle.std.specs.Int.{w32}
use Rattle.std.proofs.Common.{to_z}
use Rattle.fields.specs.Fields.{u8_at}
use Rattle.fields.specs.Lists.{pick, part, series, seek, same_list}
use Rattle.quantities.specs.declared.Minute.{Minute}
use Rattle.calendar.specs.declared.DateError.{DateError}
use Rattle.calendar.specs.Reading.{date_read}
use Rattle.report.specs.declared.Head.{Head}
use Rattle.report.specs.declared.Part.{Part}
use Rattle.report.specs.Report.{most_parts, most_text}
use Rattle.report.specs.Encoded.{encode_report}
use Rattle.forms.specs.declared.FormError.{FormError}
use Rattle.forms.specs.Lent.{no_report}
use Rattle.forms.specs.Form.{has_form, form_of}
use Rattle.form_reading.specs.declared.Numeral.{Numeral}
use Rattle.form_reading.specs.declared.CodeLines.{CodeLines}
use Rattle.form_reading.specs.declared.MarkLines.{MarkLines}
use Rattle.form_reading.specs.declared.DateLines.{DateLines}
use Rattle.form_reading.specs.declared.Point.{Point}
use Rattle.form_reading.specs.declared.Grid.{Grid}
use Rattle.form_reading.specs.declared.Lines.{Lines}

abbrev pub is_digit : ℕ → Bool
is_digit c = leb 48 c && leb c 57

-- the digits at `at`, up to `places` of them, after a number n
unfoldable pub digits_at : ℕ → List ℕ → ℕ → ℕ → Numeral
digits_at zero s at n = record { value = n; next = at }
digits_at (suc places) s at n =
    pick (is_digit (u8_at s at)) (digits_at places s (at + 1) (10 * n + (u8_at s at - 48))) (record { value = n; next = at })

-- the number that stands at `at`, of ten digits at most, and the place after it
unfoldable pub number_at : List ℕ → ℕ → Numeral
number_at s at = digits_at 10 s at 0

-- the number, and the place after the byte behind it
abbrev pub number_past : List ℕ → ℕ → Numeral
number_past s at = record { value = (number_at s at).value; next = (number_at s at).next + 1 }

-- the number of a line whose name, with its "=", is `name` bytes long, and the next line
abbrev pub number_in : ℕ → List ℕ → ℕ → Numeral
number_in name s at = number_past s (at + name)

-- a power as the number of its 32 bits, below 0 in two's complement, and the place after the byte behind it
unfoldable pub power_at : List ℕ → ℕ → Numeral
power_at s at =
    pick (eqb (u8_at s at) 45)
    (record {
      value = (4294967296 - (number_at s (at + 1)).value) % 4294967296;
      next = (number_at s (at + 1)).next + 1;
    })
    (record { value = (number_at s at).value % 4294967296; next = (number_at s at).next + 1 })

unfoldable pub hex_value : ℕ → ℕ
hex_value c = pick (leb 97 c) (c - 87) (c - 48)

-- byte j of those whose digits begin at `at`
abbrev pub hex_byte : List ℕ → ℕ → ℕ → ℕ
hex_byte s at j = (16 * hex_value (u8_at s (at + 2 * j)) + hex_value (u8_at s (at + 2 * j + 1))) % 256

abbrev pub minute_or_0 : Result Minute DateError → Minute
minute_or_0 (Ok m) = m
minute_or_0 (Err e) = record { 0 = 0 }

abbrev pub date_at : List ℕ → ℕ → Minute
date_at s at = minute_or_0 (date_read (part s at 16))

-- the lines unit, owner, type, operation, direction
unfoldable pub code_lines_in : List ℕ → CodeLines
code_lines_in s =
    let unit = number_in 5 s 0 in
    let owner = number_in 6 s unit.next in
    let type = number_in 5 s owner.next in
    let operation = number_in 10 s type.next in
    let direction = number_in 10 s operation.next in
    record {
      unit = unit.value % 65536;
      owner = owner.value % 65536;
      record_type = type.value % 256;
      operation = operation.value % 256;
      direction = direction.value % 256;
      next = direction.next;
    }

-- the lines start_mark, end_mark, qualification, ordinal, identifier
unfoldable pub mark_lines_in : List ℕ → ℕ → MarkLines
mark_lines_in s at =
    let start = number_in 11 s at in
    let end = number_in 9 s start.next in
    let qualification = number_in 14 s end.next in
    let ordinal = number_in 8 s qualification.next in
    record {
      start_mark = start.value % 256;
      end_mark = end.value % 256;
      qualification = qualification.value % 256;
      ordinal = ordinal.value % 65536;
      identifier = series (hex_byte s (ordinal.next + 11)) 0 16;
      next = ordinal.next + 44;
    }

-- the lines stamp, start, end
unfoldable pub date_lines_in : List ℕ → ℕ → DateLines
date_lines_in s at = record {
  stamp = date_at s (at + 6);
  period = record { start = date_at s (at + 29); end = date_at s (at + 50) };
  next = at + 67;
}

-- the resolution, if its line is there: it begins with "r"
unfoldable pub resolution_in : List ℕ → ℕ → Numeral
resolution_in s at = pick (eqb (u8_at s at) 114) (number_in 11 s at) (record { value = 1; next = at })

-- a point's line begins with "p"
abbrev pub is_point : List ℕ → ℕ → Bool
is_point s at = eqb (u8_at s at) 112

-- the point whose line is at `at`, and the next line
unfoldable pub point_in : List ℕ → ℕ → Point
point_in s at =
    let position = number_at s (at + 6) in
    let power = power_at s (position.next + 1) in
    record { position = position.value; power = record { 0 = to_z w32 power.value }; next = power.next }

-- where the line of point j stands, from 0, the first one's being at `at`
unfoldable pub point_at : List ℕ → ℕ → ℕ → ℕ
point_at s at zero = at
point_at s at (suc j) = (point_in s (point_at s at j)).next

unfoldable pub point_count : List ℕ → ℕ → ℕ
point_count s at = seek (λ j. not (is_point s (point_at s at j))) 0 most_parts

-- the minute of a position
abbrev pub minute_of : Grid → ℕ → Minute
minute_of g position = record { 0 = (g.period.start.0 + (position - 1) * g.step) % 4294967296 }

abbrev pub start_in : List ℕ → Grid → ℕ → Minute
start_in s g at = minute_of g (point_in s at).position

-- "the value holding until the next position given"
abbrev pub end_in : List ℕ → Grid → ℕ → Minute
end_in s g at =
    pick (is_point s (point_in s at).next) (start_in s g (point_in s at).next) g.period.end

abbrev pub part_in : List ℕ → Grid → ℕ → Part
part_in s g at = record {
  period = record { start = start_in s g at; end = end_in s g at };
  power = (point_in s at).power;
}

abbrev pub parts_in : List ℕ → Grid → ℕ → ℕ → List Part
parts_in s g at k = series (λ j. part_in s g (point_at s at j)) 0 k

-- the text is what is left of the form behind the name of its last line and before the line feed
abbrev pub text_length_in : List ℕ → ℕ → ℕ
text_length_in s at = min (length s - (at + 6)) most_text

abbrev pub head_by : CodeLines → MarkLines → DateLines → ℕ → ℕ → Head
head_by codes marks dates k t = record {
  unit = codes.unit;
  owner = codes.owner;
  record_type = record { 0 = codes.record_type };
  operation = record { 0 = codes.operation };
  direction = record { 0 = codes.direction };
  start_mark = record { 0 = marks.start_mark };
  end_mark = record { 0 = marks.end_mark };
  qualification = marks.qualification;
  ordinal = marks.ordinal;
  part_count = k;
  identifier = marks.identifier;
  stamp = dates.stamp;
  period = dates.period;
  text_length = t;
}

-- what the lines give, taken in their order
unfoldable pub lines_in : List ℕ → Lines
lines_in s =
    let codes = code_lines_in s in
    let marks = mark_lines_in s codes.next in
    let dates = date_lines_in s marks.next in
    let step = resolution_in s dates.next in
    let count = point_count s step.next in
    let last = point_at s step.next count in
    record {
      head = head_by codes marks dates count (text_length_in s last);
      step = step.value % 65536;
      points_at = step.next;
      text_at = last + 5;
    }

abbrev pub grid_of : Lines → Grid
grid_of l = record { period = l.head.period; step = l.step }

-- and the report that says that
unfoldable pub report_by : List ℕ → Lines → List ℕ
report_by s l =
    encode_report l.head (parts_in s (grid_of l) l.points_at l.head.part_count) (part s l.text_at l.head.text_length)

abbrev pub report_of : List ℕ → List ℕ
report_of form = report_by form (lines_in form)

abbrev pub is_form_of : List ℕ → List ℕ → Bool
is_form_of form report = has_form report && same_list (form_of report) form

-- "a form of no such report is 24"
unfoldable pub form_read : List ℕ → Result (List ℕ) FormError
form_read form = pick (is_form_of form (report_of form)) (Ok (report_of form)) no_report
