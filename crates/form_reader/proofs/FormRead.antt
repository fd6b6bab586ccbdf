-- What is read of a form that is told by its lines. Assumes nothing.
use Rattle.std.proofs.Common.{◌≡◌, ℕ, ◌&&◌, ◌||◌, Bool, true, false, List, refl, sym, ap, ◌∙◌, Ok, Err, eqb}
use Rattle.fields.specs.Lists.{pick}
use Rattle.report.specs.Report.{parts_of}
use Rattle.forms.specs.declared.FormError.TheVariants.{NotAForm}
use Rattle.forms.specs.Form.{has_form, resolution_of}
use Rattle.form_reading.specs.declared.Lines.{Lines}
use Rattle.form_reading.specs.Reading.{lines_in, report_by, report_of, is_form_of, form_read}
use Rattle.form_reader.specs.SpelledForm.{is_own_form}
use Rattle.form_reader.proofs.OwnForm.{own_form_is, own_form_on}

never : (t : Bool) → (t && false) ≡ false
never true = refl
never false = refl

-- a form that is told
module _ (form : List ℕ) where
  pub not_told : {r : Bool} → r ≡ is_own_form form → r ≡ false → is_form_of form (report_of form) ≡ false
  not_told asked e = sym (own_form_is form) ∙ rw (← asked, e) (never (has_form (report_of form)))

  pub told_so : {report : List ℕ} {r k : Bool} {l : Lines} → is_own_form form ≡ true → l ≡ lines_in form → report ≡ report_by form l
      → k ≡ has_form report → k ≡ true → r ≡ (eqb l.head.part_count 0 || eqb l.step (resolution_of l.head (parts_of report)))
      → r ≡ is_form_of form (report_of form)
  told_so own lines read asked has e =
      let same = read ∙ ap (report_by form) lines in
      e ∙ rw (same, lines) (own_form_on form own (ap has_form (sym same) ∙ sym asked ∙ has))

module _ (form : List ℕ) where
  pub read_yes : {found : List ℕ} → found ≡ report_of form → is_form_of form (report_of form) ≡ true → Ok found ≡ form_read form
  unfolding form_read pick
  read_yes same e = rw (e, same)

  pub read_no : is_form_of form (report_of form) ≡ false → Err NotAForm ≡ form_read form
  unfolding form_read pick
  read_no e = rw e
