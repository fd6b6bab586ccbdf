-- The lines of a head, parts and a text give them back, as a report. Assumes nothing.
use Prim.Native.Nat.{ℕ, ◌+◌, ◌%◌, ◌≤◌, ◌<◌}
use mathlib.Core.Path.{◌≡◌, refl, ap, ◌∙◌}
use mathlib.Core.List.{List, ◌++◌, append_assoc}
use native.Mathlib.Omega.{arith}
use lib.ListN.{length, drop}
use Rattle.fields.specs.Ascii.{ascii}
use Rattle.fields.specs.Lists.{part, series}
use Rattle.fields.proofs.Tests.{series-length}
use Rattle.report.specs.declared.Head.{Head}
use Rattle.report.specs.declared.Part.{Part}
use Rattle.report.specs.Report.{most_text}
use Rattle.report.specs.Encoded.{encode_report}
use Rattle.forms.specs.Values.{line}
use Rattle.forms.specs.Form.{code_lines, mark_lines, date_lines, point_lines, part_lines, form_at}
use Rattle.form_reading.specs.declared.CodeLines.{CodeLines}
use Rattle.form_reading.specs.declared.MarkLines.{MarkLines}
use Rattle.form_reading.specs.declared.DateLines.{DateLines}
use Rattle.form_reading.specs.declared.Lines.{Lines}
use Rattle.form_reading.specs.Reading.{code_lines_in, mark_lines_in, date_lines_in, resolution_in, point_at, text_length_in, grid_of, lines_in, report_by, report_of}
use Rattle.form_reading.proofs.Heads.{InRange, HeadRead, head_read}
use Rattle.form_reading.proofs.PointLines.{Points, StepRead, step_read, counted, text_there, parts_read, length_read, text_read}

regroup : (a b c d e : List ℕ) → a ++ b ++ c ++ d ++ e ≡ a ++ (b ++ (c ++ (d ++ e)))
regroup a b c d e = simp append_assoc

-- the lines of a head, parts and a text at a resolution on which all of them fall
module _ (h : Head) (parts : ℕ → Part) (bits : ℕ → ℕ) (text : List ℕ) (step : ℕ) (range : InRange h)
    (points : Points h parts bits h.part_count step) (small : step < 65536) (long : length text ≡ h.text_length)
    (short : h.text_length ≤ most_text) (f : List ℕ) (shape : f ≡ form_at step h (series parts 0 h.part_count) text) where
  abbrev ps : List Part
  ps = series parts 0 h.part_count

  abbrev last : List ℕ
  last = line (ascii "text=") text

  abbrev codes : CodeLines
  codes = code_lines_in f

  abbrev marks : MarkLines
  marks = mark_lines_in f codes.next

  abbrev dates : DateLines
  dates = date_lines_in f marks.next

  abbrev points_line : ℕ
  points_line = (resolution_in f dates.next).next

  abbrev text_line : ℕ
  text_line = point_at f points_line h.part_count

  there : drop 0 f ≡ code_lines h ++ (mark_lines h ++ (date_lines h ++ (part_lines h step ps ++ last)))
  unfolding form_at
  there = shape ∙ regroup (code_lines h) (mark_lines h) (date_lines h) (part_lines h step ps) last

  head : HeadRead codes marks dates h f (part_lines h step ps ++ last)
  head = head_read f (part_lines h step ps ++ last) h range there

  resolution : StepRead (resolution_in f dates.next) ps step f (point_lines h step ps ++ last)
  resolution = step_read f text dates.next step h ps small head.after

  text_found : drop text_line f ≡ last
  text_found = text_there h parts bits h.part_count step points f text points_line resolution.after

  fits : length text ≤ most_text
  fits = omega (arith, long, short)

  abbrev read : Lines
  read = record {
    head = h;
    step = (resolution_in f dates.next).value % 65536;
    points_at = points_line;
    text_at = text_line + 5;
  }

  lines-back : lines_in f ≡ read
  unfolding lines_in
  lines-back =
      let count = counted h parts bits h.part_count step points f text points_line resolution.after in
      let size : text_length_in f text_line ≡ h.text_length = length_read f text text_line fits text_found ∙ long in
      rw (count, size, head.head) refl

  pub report_back : report_of f ≡ encode_report h ps text
  unfolding report_by
  report_back =
      let some : 1 ≤ h.part_count → 1 ≤ length ps = λ l. rw (series-length parts 0 h.part_count) l in
      let same_parts = parts_read h parts bits h.part_count step points f text points_line resolution.after (grid_of read) refl
      (λ l. resolution.value (some l)) in
      let same_text : part f (text_line + 5) h.text_length ≡ text = rw long at (text_read f text text_line fits text_found) in
      rw (lines-back, same_parts, same_text) refl

  pub step_back : 1 ≤ length ps → (lines_in f).step ≡ step
  step_back some = ap (λ (l : Lines). l.step) lines-back ∙ resolution.value some
