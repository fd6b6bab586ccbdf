-- A whole form, told by its lines: what they give, written at the resolution that they give, is the form again.
use Rattle.std.specs.Prelude.{◌≡◌, ℕ, ◌≤◌, Bool, List, ◌++◌}
use Rattle.fields.specs.Lists.{part, same_list}
use Rattle.fields.specs.Fields.{bytes_of}
use Rattle.report.specs.Report.{text_mark}
use Rattle.report.specs.Encoded.{encode_parts}
use Rattle.forms.specs.Form.{form_at}
use Rattle.form_reader.specs.declared.HeadLines.{HeadLines}
use Rattle.form_reading.specs.declared.Lines.{Lines}
use Rattle.form_reading.specs.Reading.{code_lines_in, mark_lines_in, date_lines_in, lines_in, grid_of, parts_in}
use Rattle.form_reader.specs.Spelled.{Told, code_text, mark_text, date_text}

abbrev pub own_form : List ℕ → Lines → List ℕ
own_form s l =
    form_at l.step l.head (parts_in s (grid_of l) l.points_at l.head.part_count) (part s l.text_at l.head.text_length)

unfoldable pub is_own_form : List ℕ → Bool
is_own_form s = same_list (own_form s (lines_in s)) s

-- the report without its head
abbrev pub body_by : List ℕ → Lines → List ℕ
body_by s l =
    encode_parts (parts_in s (grid_of l) l.points_at l.head.part_count) ++ (bytes_of 2 text_mark ++ part s l.text_at l.head.text_length)

-- the head's lines are read, and told
pub record HeadTold (s : List ℕ) (l : HeadLines) : Type 0 where
  pub codes : l.codes ≡ code_lines_in s
  pub marks : l.marks ≡ mark_lines_in s l.codes.next
  pub dates : l.dates ≡ date_lines_in s l.marks.next
  pub told : Told (code_text l.codes ++ mark_text l.marks ++ date_text l.dates) s 0 l.spelled l.dates.next
  pub near : l.dates.next ≤ 288
