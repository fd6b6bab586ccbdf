-- A form is that of its report if it is what its lines say, at the resolution that the writer picks. Assumes nothing.
use Prim.Native.Nat.{ℕ, ◌≤◌, ◌<◌}
use mathlib.Core.Path.{◌≡◌, refl, ap, sym, ◌∙◌}
use mathlib.Core.Bool.{Bool, true, false, ◌&&◌, ◌||◌}
use mathlib.Core.List.{List, [], ◌∷◌}
use mathlib.Core.Logic.{⊎_elim}
use native.Mathlib.Omega.{arith}
use lib.Dec.{eqb}
use lib.ListN.{length}
use borrow.Author.Tests.{eqb-true, eq-eqb}
use Rattle.fields.specs.Lists.{pick, part, same_list}
use Rattle.fields.proofs.Bools.{and_left, and_right, and_both, both_ways, or_cases, lt-or-le}
use Rattle.fields.proofs.Tests.{same-list-true, same-list-self, series-length}
use Rattle.report.specs.declared.Head.{Head}
use Rattle.report.specs.declared.Part.{Part}
use Rattle.report.specs.Report.{parts_of}
use Rattle.forms.specs.Form.{has_form, resolution_of, part_lines, form_at, form_of}
use Rattle.form_reading.specs.declared.Lines.{Lines}
use Rattle.form_reading.specs.Reading.{lines_in, report_of, is_form_of, grid_of, parts_in}
use Rattle.form_reader.specs.SpelledForm.{own_form, is_own_form}
use Rattle.form_reader.proofs.Standing.{and-same}
use Rattle.form_reader.proofs.Decoded.{head-decoded, parts-decoded, text-decoded}
use Rattle.form_reading.proofs.ReadBytes.{report-bytes}
use Rattle.form_reading.proofs.Round.{step_of_form}

or-true : (a : Bool) → (a || true) ≡ true
or-true true = refl
or-true false = refl

both-true : {a b : Bool} (c : Bool) → a ≡ true → b ≡ true → (a && (b && c)) ≡ c
both-true c p q = rw (p, q) refl

-- without parts no line has a resolution
no-step : (a b : ℕ) (h : Head) (ps : List Part) (text : List ℕ) → length ps ≡ 0 → form_at a h ps text ≡ form_at b h ps text
unfolding form_at part_lines pick
no-step a b h [] text e = refl
no-step a b h (p ∷ ps) text e = absurd (omega arith)

module _ (form : List ℕ) where
  abbrev l : Lines
  l = lines_in form

  abbrev ps : List Part
  ps = parts_in form (grid_of l) l.points_at l.head.part_count

  abbrev picked : ℕ
  picked = resolution_of l.head ps

  abbrev on_step : Bool
  on_step = eqb l.head.part_count 0 || eqb l.step picked

  abbrev text : List ℕ
  text = part form l.text_at l.head.text_length

  form-decoded : form_of (report_of form) ≡ form_at picked l.head ps text
  form-decoded = rw (head-decoded form, parts-decoded form, text-decoded form)

  picked-or-none : on_step ≡ true → form_at picked l.head ps text ≡ own_form form l
  picked-or-none e =
      ⊎_elim
      (λ none. no-step picked l.step l.head ps text (series-length _ 0 l.head.part_count ∙ eqb-true l.head.part_count 0 none))
      (λ same. ap (λ (step : ℕ). form_at step l.head ps text) (sym (eqb-true l.step picked same)))
      (or_cases (eqb l.head.part_count 0) (eqb l.step picked) e)

  on-step : has_form (report_of form) ≡ true → form_of (report_of form) ≡ form → on_step ≡ true
  on-step has e =
      ⊎_elim
      (λ (some : 0 < l.head.part_count).
      let many : 1 ≤ length (parts_of (report_of form)) = rw (parts-decoded form, series-length) some in
      let step = step_of_form (report_of form) (report-bytes form has) has form many e in
      let same : l.step ≡ picked = step ∙ rw (head-decoded form, parts-decoded form) in
      rw (eq-eqb l.step picked same) (or-true (eqb l.head.part_count 0)))
      (λ (none : l.head.part_count ≤ 0). rw (eq-eqb l.head.part_count 0 (omega arith)))
      (lt-or-le 0 l.head.part_count)

  -- written at the resolution that the lines give, and at the one that is picked
  own-form : has_form (report_of form) ≡ true → (is_own_form form && on_step) ≡ same_list (form_of (report_of form)) form
  unfolding is_own_form
  own-form has =
      both_ways (is_own_form form && on_step) (same_list (form_of (report_of form)) form)
      (λ e.
      let own = same-list-true (own_form form l) form (and_left (is_own_form form) on_step e) in
      let same = form-decoded ∙ picked-or-none (and_right (is_own_form form) on_step e) ∙ own in
      rw same (same-list-self form))
      (λ e.
      let same = same-list-true (form_of (report_of form)) form e in
      let on = on-step has same in
      let own = sym (form-decoded ∙ picked-or-none on) ∙ same in
      and_both (rw own (same-list-self form)) on)

  pub own_form_is : (has_form (report_of form) && (is_own_form form && on_step)) ≡ is_form_of form (report_of form)
  own_form_is = and-same (has_form (report_of form)) (is_own_form form && on_step) (same_list (form_of (report_of form)) form) own-form

  pub own_form_on : is_own_form form ≡ true → has_form (report_of form) ≡ true
      → (eqb l.head.part_count 0 || eqb l.step (resolution_of l.head (parts_of (report_of form)))) ≡ is_form_of form (report_of form)
  own_form_on own has =
      ap (λ (qs : List Part). eqb l.head.part_count 0 || eqb l.step (resolution_of l.head qs)) (parts-decoded form)
      ∙ sym (both-true on_step has own) ∙ own_form_is
