-- Paper 02, A4, "Reports written from a form": which reports have a form, and which form.
use Rattle.std.specs.Prelude.{ℕ, ◌+◌, ◌-◌, ◌/◌, ◌%◌, ◌≤◌, ◌<◌, ◌≡◌, Bool, true, ◌&&◌, ◌||◌, List, [], ◌∷◌, ◌++◌, leb, eqb, length, is_ok}
use Rattle.fields.specs.Lists.{pick, every, all, part}
use Rattle.fields.specs.Ascii.{ascii}
use Rattle.fields.specs.Fields.{u8_at}
use Rattle.quantities.specs.declared.Minute.{Minute}
use Rattle.report.specs.declared.Head.{Head}
use Rattle.report.specs.declared.Part.{Part}
use Rattle.report.specs.Report.{head_of, parts_of, text_length_of, whole}
use Rattle.report.specs.Remark.{text_start}
use Rattle.rules.specs.Codes.{between}
use Rattle.rules.specs.Questions.{question4, question8}
use Rattle.texts.specs.Numerals.{decimal, space}
use Rattle.forms.specs.Values.{line, number_line, date_line, hex_text, signed_decimal}

abbrev pub text_of : List ℕ → List ℕ
text_of s = part s (text_start s) (text_length_of s)

abbrev pub printable : ℕ → Bool
printable c = leb 0x20 c && leb c 0x7E

-- "each whole report that passes questions 4 and 8, with unit 1 to 64 and owner 1 to 999, and whose text is printable ASCII"
unfoldable pub has_form : List ℕ → Bool
has_form s =
    every
    (whole s
    ∷ question4 (head_of s) (parts_of s)
    ∷ is_ok (question8 (head_of s) (parts_of s))
    ∷ between 1 64 (head_of s).unit
    ∷ between 1 999 (head_of s).owner
    ∷ all printable (text_of s)
    ∷ [])

-- "one for each head field and the text, in one order": the head's lines, in three groups. Mark and zeros are constants, k is the
-- number of points, t the length of the text: they have no line
unfoldable pub code_lines : Head → List ℕ
code_lines h =
    number_line (ascii "unit=") h.unit ++ number_line (ascii "owner=") h.owner ++ number_line (ascii "type=") h.record_type.0
    ++ number_line (ascii "operation=") h.operation.0 ++ number_line (ascii "direction=") h.direction.0

unfoldable pub mark_lines : Head → List ℕ
mark_lines h =
    number_line (ascii "start_mark=") h.start_mark.0 ++ number_line (ascii "end_mark=") h.end_mark.0
    ++ number_line (ascii "qualification=") h.qualification ++ number_line (ascii "ordinal=") h.ordinal
    ++ line (ascii "identifier=") (hex_text h.identifier)

unfoldable pub date_lines : Head → List ℕ
date_lines h =
    date_line (ascii "stamp=") h.stamp ++ date_line (ascii "start=") h.period.start ++ date_line (ascii "end=") h.period.end

-- how many minutes after the record's start
abbrev pub after_start : Head → Minute → ℕ
after_start h m = m.0 - h.period.start.0

-- whole steps after the record's start
abbrev pub falls : Head → ℕ → Minute → Bool
falls h step m = eqb (after_start h m % step) 0

-- a resolution "on which every part's start and the period's end fall"
unfoldable pub all_fall : Head → List Part → ℕ → Bool
all_fall h ps step = falls h step h.period.end && all (λ p. falls h step p.period.start) ps

-- "a resolution of 1,440, 60, 15, 5 or 1 minutes"; "the writer picks the coarsest"
unfoldable pub resolution_of : Head → List Part → ℕ
resolution_of h ps =
    pick (all_fall h ps 1440) 1440
    (pick (all_fall h ps 60) 60
    (pick (all_fall h ps 15) 15
    (pick (all_fall h ps 5) 5 1)))

-- "positions counted from 1 at the start, the value holding until the next position given": where a part ends is not written, for by
-- question 8 it is the next part's start, or the period's end
abbrev pub position : Head → ℕ → Part → ℕ
position h step p = after_start h p.period.start / step + 1

abbrev pub point_line : Head → ℕ → Part → List ℕ
point_line h step p = line (ascii "point=") (decimal (position h step p) ++ (space ++ signed_decimal p.power.0))

-- "Each part gives one position, even where its value equals the one before"
unfoldable pub point_lines : Head → ℕ → List Part → List ℕ
point_lines h step [] = []
point_lines h step (p ∷ ps) = point_line h step p ++ point_lines h step ps

-- "A report without parts has no resolution line."
unfoldable pub part_lines : Head → ℕ → List Part → List ℕ
part_lines h step ps =
    pick (eqb (length ps) 0) [] (number_line (ascii "resolution=") step ++ point_lines h step ps)

-- the lines of a report at a resolution
unfoldable pub form_at : ℕ → Head → List Part → List ℕ → List ℕ
form_at step h ps text =
    code_lines h ++ mark_lines h ++ date_lines h ++ part_lines h step ps ++ line (ascii "text=") text

-- the form of a report
abbrev pub form_of : List ℕ → List ℕ
form_of s = form_at (resolution_of (head_of s) (parts_of s)) (head_of s) (parts_of s) (text_of s)

-- what a slice of bytes holds
abbrev pub AreBytes : List ℕ → Type 0
AreBytes s = (i : ℕ) → u8_at s i < 256

-- the report has a form, and this is it
pub record IsFormOf (form s : List ℕ) : Type 0 where
  pub has : has_form s ≡ true
  pub same : form_of s ≡ form

-- "a resolution of 1,440, 60, 15, 5 or 1 minutes"
abbrev pub is_resolution : ℕ → Bool
is_resolution step = eqb step 1440 || (eqb step 60 || (eqb step 15 || (eqb step 5 || eqb step 1)))

-- what "the coarsest" says: all of it falls on this step, one of the five, and none of the five on which all of it falls is coarser
pub record Coarsest (h : Head) (ps : List Part) (step : ℕ) : Type 0 where
  pub one_of_five : is_resolution step ≡ true
  pub fits : all_fall h ps step ≡ true
  pub day : all_fall h ps 1440 ≡ true → 1440 ≤ step
  pub hour : all_fall h ps 60 ≡ true → 60 ≤ step
  pub quarter : all_fall h ps 15 ≡ true → 15 ≤ step
  pub five : all_fall h ps 5 ≡ true → 5 ≤ step
