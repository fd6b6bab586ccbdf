-- All lines together are told: whether what they give is written as they are. Assumes nothing.
use Prim.Native.Nat.{ℕ, ◌+◌, ◌%◌}
use mathlib.Core.Path.{◌≡◌, refl, ap, sym, ◌∙◌}
use mathlib.Core.Bool.{Bool, false, not, ◌&&◌}
use mathlib.Core.List.{List, ◌++◌, append_assoc}
use native.Mathlib.Nat.{zero-add}
use lib.Dec.{eqb}
use lib.ListN.{length}
use Rattle.fields.specs.Ascii.{ascii}
use Rattle.fields.specs.Fields.{u8_at}
use Rattle.fields.specs.Lists.{pick, part, same_list}
use Rattle.fields.proofs.Tests.{series-length}
use Rattle.report.specs.declared.Head.{Head}
use Rattle.report.specs.declared.Part.{Part}
use Rattle.forms.specs.Values.{line, number_line}
use Rattle.forms.specs.Form.{code_lines, mark_lines, date_lines, point_lines, part_lines, form_at}
use Rattle.form_reading.specs.declared.Numeral.{Numeral}
use Rattle.form_reading.specs.declared.CodeLines.{CodeLines}
use Rattle.form_reading.specs.declared.MarkLines.{MarkLines}
use Rattle.form_reading.specs.declared.DateLines.{DateLines}
use Rattle.form_reading.specs.declared.Grid.{Grid}
use Rattle.form_reading.specs.declared.Lines.{Lines}
use Rattle.form_reading.specs.Reading.{head_by, parts_in, lines_in, code_lines_in, mark_lines_in, date_lines_in, resolution_in, point_count, point_at, text_length_in}
use Rattle.form_reader.specs.Spelled.{Told, code_text, mark_text, date_text}
use Rattle.form_reader.specs.SpelledForm.{own_form, is_own_form}
use Rattle.form_reader.proofs.Standing.{same-all, and-same, told_then}
use Rattle.form_reader.proofs.SpelledPowers.{told_as}
use Rattle.form_reader.proofs.SpelledHead.{head_told}
use Rattle.form_reader.proofs.SpelledRest.{rest_told}

-- what is told up to the end of a list is all of it
told-all : {x s : List ℕ} {t : Bool} {next : ℕ} → Told x s 0 t next → (t && eqb next (length s)) ≡ same_list x s
told-all {x} {s} {t} {next} p =
    and-same t (eqb next (length s)) (eqb (length x) (length s)) (λ e. ap (λ (i : ℕ). eqb i (length s)) (p.after e ∙ zero-add (length x)))
    ∙ ap (λ (u : Bool). u && eqb (length x) (length s)) p.told ∙ sym (same-all x s)

-- the head's lines, and then the rest
form-told : {s : List ℕ} {a b : Bool} {mid next : ℕ} (h : Head) (step : ℕ) (ps : List Part) (text : List ℕ)
    → Told (code_lines h ++ mark_lines h ++ date_lines h) s 0 a mid → Told (part_lines h step ps ++ line (ascii "text=") text) s mid b next
    → Told (form_at step h ps text) s 0 (a && b) next
unfolding form_at
form-told h step ps text p q =
    told_as
    (sym (append_assoc (code_lines h ++ mark_lines h ++ date_lines h) (part_lines h step ps) (line (ascii "text=") text))) refl (told_then p q)

module _ (s : List ℕ) (codes : CodeLines) (marks : MarkLines) (dates : DateLines) (m : Numeral) (k last t : ℕ) where
  abbrev grid : Grid
  grid = record { period = dates.period; step = m.value % 65536 }

  abbrev read : Lines
  read = record { head = head_by codes marks dates k t; step = m.value % 65536; points_at = m.next; text_at = last + 5 }

  lines-read : codes ≡ code_lines_in s → marks ≡ mark_lines_in s codes.next → dates ≡ date_lines_in s marks.next
      → m ≡ resolution_in s dates.next → k ≡ point_count s m.next → last ≡ point_at s m.next k → t ≡ text_length_in s last
      → read ≡ lines_in s
  unfolding lines_in
  lines-read codes_read marks_read dates_read step_read count place long =
      rw (long, place, count, step_read, dates_read, marks_read, codes_read) refl

  pub whole_told : {a d e f : Bool} {r : ℕ} → codes ≡ code_lines_in s → marks ≡ mark_lines_in s codes.next
      → dates ≡ date_lines_in s marks.next → m ≡ resolution_in s dates.next → k ≡ point_count s m.next → last ≡ point_at s m.next k
      → t ≡ text_length_in s last → Told (code_text codes ++ mark_text marks ++ date_text dates) s 0 a dates.next
      → Told (number_line (ascii "resolution=") (m.value % 65536)) s dates.next d m.next
      → (eqb (u8_at s dates.next) 114 ≡ false → m.next ≡ dates.next)
      → ((h : Head) → h.period ≡ dates.period → Told (point_lines h (m.value % 65536) (parts_in s grid m.next k)) s m.next e last)
      → Told (line (ascii "text=") (part s (last + 5) t)) s last f (last + 6 + t) → r ≡ u8_at s dates.next
      → (a && (pick (eqb k 0) (not (eqb r 114)) (d && e) && f) && eqb (last + 6 + t) (length s)) ≡ is_own_form s
  unfolding is_own_form
  whole_told {r = r} codes_read marks_read dates_read step_read count place long p resolution stays points text here =
      let h = head_by codes marks dates k t in
      let ps = parts_in s grid m.next k in
      let asked : eqb r 114 ≡ eqb (u8_at s dates.next) 114 = ap (λ (i : ℕ). eqb i 114) here in
      let rest = rest_told s (part s (last + 5) t) (m.value % 65536) h resolution text asked (λ w. stays (sym asked ∙ w)) ps (points h refl) in
      let all = told-all (form-told h (m.value % 65536) ps (part s (last + 5) t) (head_told codes marks dates k t p) rest) in
      let size : length ps ≡ k = series-length _ 0 k in
      rw size at all ∙ ap (λ (l : Lines). same_list (own_form s l) s) (lines-read codes_read marks_read dates_read step_read count place long)
