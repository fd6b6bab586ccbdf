-- The three groups of a head's lines together; where one of them is not told, the text is not what its lines say. Assumes nothing.
use Prim.Native.Nat.{ℕ, ◌+◌}
use mathlib.Core.Path.{◌≡◌, refl, ap, sym, ◌∙◌}
use mathlib.Core.Bool.{Bool, true, false, ◌&&◌, ◌||◌, true≢false}
use mathlib.Core.List.{List, ◌++◌, append_assoc}
use lib.Dec.{eqb}
use lib.ListN.{length}
use Rattle.fields.specs.Ascii.{ascii}
use Rattle.fields.specs.Lists.{part, same_list}
use Rattle.forms.specs.Values.{line}
use Rattle.forms.specs.Form.{code_lines, mark_lines, date_lines, part_lines, form_at}
use Rattle.form_reading.specs.declared.CodeLines.{CodeLines}
use Rattle.form_reading.specs.declared.MarkLines.{MarkLines}
use Rattle.form_reading.specs.declared.DateLines.{DateLines}
use Rattle.form_reading.specs.declared.Lines.{Lines}
use Rattle.form_reading.specs.Reading.{head_by, code_lines_in, mark_lines_in, date_lines_in, lines_in, parts_in, grid_of}
use Rattle.form_reader.specs.Spelled.{stands, Told, code_text, mark_text, date_text}
use Rattle.form_reader.specs.SpelledForm.{own_form, is_own_form}
use Rattle.form_reader.proofs.Standing.{stands-then, same-all}

-- of any head that has what was read
pub head_told : {t : Bool} {s : List ℕ} {at next : ℕ} (codes : CodeLines) (marks : MarkLines) (dates : DateLines) (k n : ℕ)
    → Told (code_text codes ++ mark_text marks ++ date_text dates) s at t next → let h = head_by codes marks dates k n in
    Told (code_lines h ++ mark_lines h ++ date_lines h) s at t next
unfolding code_lines mark_lines date_lines
head_told codes marks dates k n p = p

-- what does not begin as it should
not-begun : {s : List ℕ} {t : Bool} {next : ℕ} (x y : List ℕ) → Told x s 0 t next → t ≡ false → same_list (x ++ y) s ≡ false
not-begun {s} x y p e =
    same-all (x ++ y) s
    ∙ ap (λ (u : Bool). u && eqb (length (x ++ y)) (length s)) (stands-then x y s 0 ∙ ap (λ (u : Bool). u && stands y s (0 + length x)) (sym p.told ∙ e))

regroup1 : (a b c d e : List ℕ) → a ++ b ++ c ++ d ++ e ≡ a ++ (b ++ c ++ d ++ e)
regroup1 a b c d e = simp append_assoc

regroup2 : (a b c d e : List ℕ) → a ++ b ++ c ++ d ++ e ≡ a ++ b ++ (c ++ d ++ e)
regroup2 a b c d e = simp append_assoc

regroup3 : (a b c d e : List ℕ) → a ++ b ++ c ++ d ++ e ≡ a ++ b ++ c ++ (d ++ e)
regroup3 a b c d e = simp append_assoc

module _ (s : List ℕ) where
  abbrev l : Lines
  l = lines_in s

  abbrev parts : List ℕ
  parts = part_lines l.head l.step (parts_in s (grid_of l) l.points_at l.head.part_count)

  abbrev last : List ℕ
  last = line (ascii "text=") (part s l.text_at l.head.text_length)

  abbrev codes : CodeLines
  codes = code_lines_in s

  abbrev marks : MarkLines
  marks = mark_lines_in s codes.next

  abbrev dates : DateLines
  dates = date_lines_in s marks.next

  shape : own_form s l ≡ code_text codes ++ mark_text marks ++ date_text dates ++ parts ++ last
  unfolding form_at code_lines mark_lines date_lines lines_in
  shape = refl

  pub codes_not_told : {t : Bool} {next : ℕ} {c : CodeLines} → c ≡ codes → Told (code_text c) s 0 t next → t ≡ false → is_own_form s ≡ false
  unfolding is_own_form
  codes_not_told e p q =
      ap (λ (x : List ℕ). same_list x s) (shape ∙ regroup1 (code_text codes) (mark_text marks) (date_text dates) parts last)
      ∙ not-begun (code_text codes) (mark_text marks ++ date_text dates ++ parts ++ last) (rw e at p) q

  pub marks_not_told : {t : Bool} {next : ℕ} {c : CodeLines} {m : MarkLines} → c ≡ codes → m ≡ mark_lines_in s c.next
      → Told (code_text c ++ mark_text m) s 0 t next → t ≡ false → is_own_form s ≡ false
  unfolding is_own_form
  marks_not_told e f p q =
      ap (λ (x : List ℕ). same_list x s) (shape ∙ regroup2 (code_text codes) (mark_text marks) (date_text dates) parts last)
      ∙ not-begun (code_text codes ++ mark_text marks) (date_text dates ++ parts ++ last) (rw (f, e) at p) q

  pub dates_not_told : {t : Bool} {next : ℕ} {c : CodeLines} {m : MarkLines} {d : DateLines} → c ≡ codes → m ≡ mark_lines_in s c.next
      → d ≡ date_lines_in s m.next → Told (code_text c ++ mark_text m ++ date_text d) s 0 t next → t ≡ false → is_own_form s ≡ false
  unfolding is_own_form
  dates_not_told e f g p q =
      ap (λ (x : List ℕ). same_list x s) (shape ∙ regroup3 (code_text codes) (mark_text marks) (date_text dates) parts last)
      ∙ not-begun (code_text codes ++ mark_text marks ++ date_text dates) (parts ++ last) (rw (g, f, e) at p) q

pub neither : {a b : Bool} → (a || b) ≡ false → (a ≡ false) × (b ≡ false)
neither {a = true} e = (e, absurd (true≢false e))
neither {a = false} e = (refl, e)
