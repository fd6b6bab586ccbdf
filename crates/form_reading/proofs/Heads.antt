-- The head's lines give its fields back. Assumes nothing.
use Prim.Native.Nat.{ℕ, ◌+◌, ◌≤◌, ◌<◌}
use mathlib.Core.Path.{◌≡◌, ◌∙◌}
use mathlib.Core.List.{List, ◌∷◌, ◌++◌, append_assoc}
use native.Mathlib.Omega.{arith}
use lib.ListN.{length, drop}
use Rattle.fields.specs.Ascii.{ascii}
use Rattle.quantities.specs.Quantities.{last_minute}
use Rattle.report.specs.declared.Head.{Head}
use Rattle.forms.specs.Values.{line, number_line, date_line, hex_text}
use Rattle.forms.specs.Form.{code_lines, mark_lines, date_lines}
use Rattle.form_reading.specs.declared.CodeLines.{CodeLines}
use Rattle.form_reading.specs.declared.MarkLines.{MarkLines}
use Rattle.form_reading.specs.declared.DateLines.{DateLines}
use Rattle.form_reading.specs.Reading.{number_in, code_lines_in, mark_lines_in, date_lines_in, head_by}
use Rattle.forms.specs.Form.{AreBytes}
use Rattle.form_reading.proofs.Values.{number-line, date-line, identifier-back, hex-length, value_there, line_past}

-- a head whose fields fit their bytes, with an identifier of bytes and dates that are printed
pub record InRange (h : Head) : Type 0 where
  pub unit : h.unit < 65536
  pub owner : h.owner < 65536
  pub record_type : h.record_type.0 < 256
  pub operation : h.operation.0 < 256
  pub direction : h.direction.0 < 256
  pub start_mark : h.start_mark.0 < 256
  pub end_mark : h.end_mark.0 < 256
  pub qualification : h.qualification < 256
  pub ordinal : h.ordinal < 65536
  pub long : length h.identifier ≡ 16
  pub bytes : AreBytes h.identifier
  pub stamp : h.stamp.0 ≤ last_minute
  pub start : h.period.start.0 ≤ last_minute
  pub end : h.period.end.0 ≤ last_minute

-- what is read is the head's, and `rest` stands after it
pub record CodesRead (read : CodeLines) (h : Head) (s rest : List ℕ) : Type 0 where
  pub unit : read.unit ≡ h.unit
  pub owner : read.owner ≡ h.owner
  pub record_type : read.record_type ≡ h.record_type.0
  pub operation : read.operation ≡ h.operation.0
  pub direction : read.direction ≡ h.direction.0
  pub after : drop read.next s ≡ rest

pub record MarksRead (read : MarkLines) (h : Head) (s rest : List ℕ) : Type 0 where
  pub start_mark : read.start_mark ≡ h.start_mark.0
  pub end_mark : read.end_mark ≡ h.end_mark.0
  pub qualification : read.qualification ≡ h.qualification
  pub ordinal : read.ordinal ≡ h.ordinal
  pub identifier : read.identifier ≡ h.identifier
  pub after : drop read.next s ≡ rest

pub record DatesRead (read : DateLines) (h : Head) (s rest : List ℕ) : Type 0 where
  pub stamp : read.stamp ≡ h.stamp
  pub period : read.period ≡ h.period
  pub after : drop read.next s ≡ rest

regroup3 : (a b c r : List ℕ) → a ++ b ++ c ++ r ≡ a ++ (b ++ (c ++ r))
regroup3 a b c r = simp append_assoc

regroup5 : (a b c d e r : List ℕ) → a ++ b ++ c ++ d ++ e ++ r ≡ a ++ (b ++ (c ++ (d ++ (e ++ r))))
regroup5 a b c d e r = simp append_assoc

module _ (f rest : List ℕ) (h : Head) (range : InRange h) where
  pub codes_read : drop 0 f ≡ code_lines h ++ rest → CodesRead (code_lines_in f) h f rest
  unfolding code_lines code_lines_in
  codes_read there =
      let p1 = (number_in 5 f 0).next in
      let p2 = (number_in 6 f p1).next in
      let p3 = (number_in 5 f p2).next in
      let p4 = (number_in 10 f p3).next in
      let l2 = number_line (ascii "owner=") h.owner in
      let l3 = number_line (ascii "type=") h.record_type.0 in
      let l4 = number_line (ascii "operation=") h.operation.0 in
      let l5 = number_line (ascii "direction=") h.direction.0 in
      let r5 = l5 ++ rest in
      let r4 = l4 ++ r5 in
      let r3 = l3 ++ r4 in
      let lines = there ∙ regroup5 (number_line (ascii "unit=") h.unit) l2 l3 l4 l5 rest in
      let unit = number-line f 0 h.unit (ascii "unit=") (l2 ++ r3) (omega (arith, range.unit)) lines in
      let owner = number-line f p1 h.owner (ascii "owner=") r3 (omega (arith, range.owner)) unit.after in
      let type = number-line f p2 h.record_type.0 (ascii "type=") r4 (omega (arith, range.record_type)) owner.after in
      let operation = number-line f p3 h.operation.0 (ascii "operation=") r5 (omega (arith, range.operation)) type.after in
      let direction = number-line f p4 h.direction.0 (ascii "direction=") rest (omega (arith, range.direction)) operation.after in
      record {
        unit = rw unit.value (omega (arith, range.unit));
        owner = rw owner.value (omega (arith, range.owner));
        record_type = rw type.value (omega (arith, range.record_type));
        operation = rw operation.value (omega (arith, range.operation));
        direction = rw direction.value (omega (arith, range.direction));
        after = direction.after;
      }

  pub marks_read : (at : ℕ) → drop at f ≡ mark_lines h ++ rest → MarksRead (mark_lines_in f at) h f rest
  unfolding mark_lines mark_lines_in
  marks_read at there =
      let p1 = (number_in 11 f at).next in
      let p2 = (number_in 9 f p1).next in
      let p3 = (number_in 14 f p2).next in
      let p4 = (number_in 8 f p3).next in
      let id = hex_text h.identifier in
      let l2 = number_line (ascii "end_mark=") h.end_mark.0 in
      let l3 = number_line (ascii "qualification=") h.qualification in
      let l4 = number_line (ascii "ordinal=") h.ordinal in
      let l5 = line (ascii "identifier=") id in
      let r5 = l5 ++ rest in
      let r4 = l4 ++ r5 in
      let r3 = l3 ++ r4 in
      let lines = there ∙ regroup5 (number_line (ascii "start_mark=") h.start_mark.0) l2 l3 l4 l5 rest in
      let start = number-line f at h.start_mark.0 (ascii "start_mark=") (l2 ++ r3) (omega (arith, range.start_mark)) lines in
      let end = number-line f p1 h.end_mark.0 (ascii "end_mark=") r3 (omega (arith, range.end_mark)) start.after in
      let qualification = number-line f p2 h.qualification (ascii "qualification=") r4 (omega (arith, range.qualification)) end.after in
      let ordinal = number-line f p3 h.ordinal (ascii "ordinal=") r5 (omega (arith, range.ordinal)) qualification.after in
      let value = value_there f p4 (ascii "identifier=") id rest ordinal.after in
      let n : p4 + 11 + length id + 1 ≡ p4 + 44 = omega (arith, hex-length h.identifier, range.long) in
      record {
        start_mark = rw start.value (omega (arith, range.start_mark));
        end_mark = rw end.value (omega (arith, range.end_mark));
        qualification = rw qualification.value (omega (arith, range.qualification));
        ordinal = rw ordinal.value (omega (arith, range.ordinal));
        identifier = identifier-back f (p4 + 11) h.identifier (10 ∷ rest) range.long range.bytes value;
        after = rw n at (line_past f p4 (ascii "identifier=") id rest ordinal.after);
      }

  pub dates_read : (at : ℕ) → drop at f ≡ date_lines h ++ rest → DatesRead (date_lines_in f at) h f rest
  unfolding date_lines date_lines_in
  dates_read at there =
      let l2 = date_line (ascii "start=") h.period.start in
      let l3 = date_line (ascii "end=") h.period.end in
      let lines = there ∙ regroup3 (date_line (ascii "stamp=") h.stamp) l2 l3 rest in
      let stamp = date-line f at h.stamp (ascii "stamp=") (l2 ++ (l3 ++ rest)) range.stamp lines in
      let start = date-line f (at + 6 + 17) h.period.start (ascii "start=") (l3 ++ rest) range.start stamp.after in
      let end = date-line f (at + 6 + 17 + 6 + 17) h.period.end (ascii "end=") rest range.end start.after in
      let a : at + 6 + 17 + 6 ≡ at + 29 = omega arith in
      let b : at + 6 + 17 + 6 + 17 + 4 ≡ at + 50 = omega arith in
      let c : at + 6 + 17 + 6 + 17 + 4 + 17 ≡ at + 67 = omega arith in
      record { stamp = stamp.value; period = rw (rw a at start.value, rw b at end.value); after = rw c at end.after }

-- the three groups of lines together
pub record HeadRead (codes : CodeLines) (marks : MarkLines) (dates : DateLines) (h : Head) (s rest : List ℕ) : Type 0 where
  pub head : head_by codes marks dates h.part_count h.text_length ≡ h
  pub after : drop dates.next s ≡ rest

pub head_read : (f rest : List ℕ) (h : Head) → InRange h → drop 0 f ≡ code_lines h ++ (mark_lines h ++ (date_lines h ++ rest))
    → let codes = code_lines_in f in let marks = mark_lines_in f codes.next in
    HeadRead codes marks (date_lines_in f marks.next) h f rest
head_read f rest h range there =
    let codes = codes_read f (mark_lines h ++ (date_lines h ++ rest)) h range there in
    let marks = marks_read f (date_lines h ++ rest) h range (code_lines_in f).next codes.after in
    let dates = dates_read f rest h range (mark_lines_in f (code_lines_in f).next).next marks.after in
    record {
      head = rw (
        codes.unit,
        codes.owner,
        codes.record_type,
        codes.operation,
        codes.direction,
        marks.start_mark,
        marks.end_mark,
        marks.qualification,
        marks.ordinal,
        marks.identifier,
        dates.stamp,
        dates.period,
      );
      after = dates.after;
    }
