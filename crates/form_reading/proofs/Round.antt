-- A report comes back from its form, and nothing else is read. Assumes nothing.
use Prim.Native.Nat.{ℕ, ◌+◌, ◌≤◌}
use mathlib.Core.Path.{◌≡◌, refl, ap, sym, ◌∙◌}
use mathlib.Core.Bool.{true}
use mathlib.Core.List.{List}
use native.Mathlib.Omega.{arith}
use lib.ListN.{length}
use Rattle.std.specs.Prelude.{Result, Ok}
use Rattle.fields.specs.Fields.{u32_at}
use Rattle.fields.specs.Lists.{pick, same_list}
use Rattle.fields.proofs.Bools.{and_left, and_right, pick-elim}
use Rattle.fields.proofs.Tests.{same-list-true, same-list-self}
use Rattle.report.specs.Report.{part_start, part_count_of, head_of, part_at, parts_of}
use Rattle.forms.specs.declared.FormError.{FormError}
use Rattle.forms.proofs.Formed.{Formed, formed}
use Rattle.forms.proofs.Coarsest.{coarsest_of, resolution-range}
use Rattle.forms.specs.Form.{text_of, has_form, all_fall, resolution_of, form_at, form_of, IsFormOf}
use Rattle.form_reading.specs.Reading.{lines_in, report_of, is_form_of, form_read}
use Rattle.forms.specs.Lent.{no_report}
use Rattle.forms.specs.Form.{AreBytes}
use Rattle.form_reading.proofs.PointLines.{Points}
use Rattle.form_reading.proofs.Bytes.{four-small}
use Rattle.form_reading.proofs.Encoding.{encoded}
use Rattle.form_reading.proofs.Reports.{links, in_range, text-length}
use Rattle.form_reading.proofs.ReadBytes.{report-bytes}
use Rattle.form_reading.proofs.LinesBack.{report_back, step_back}

-- what a form is read as has this form
is-form : (form report : List ℕ) → is_form_of form report ≡ true → IsFormOf form report
is-form form report e =
    let has = has_form report in
    let same = same_list (form_of report) form in
    record { has = and_left has same e; same = same-list-true (form_of report) form (and_right has same e) }

-- a report that has a form
module _ (r : List ℕ) (bytes : AreBytes r) (has : has_form r ≡ true) where
  abbrev form_on : ℕ → List ℕ
  form_on step = form_at step (head_of r) (parts_of r) (text_of r)

  abbrev picked : ℕ
  picked = resolution_of (head_of r) (parts_of r)

  picked_most : picked ≤ 1440
  picked_most = (resolution-range (head_of r) (parts_of r)).1

  picked_falls : all_fall (head_of r) (parts_of r) picked ≡ true
  picked_falls = (coarsest_of (head_of r) (parts_of r)).fits

  abbrev power_bits : ℕ → ℕ
  power_bits j = u32_at r (part_start j + 12)

  known : Formed r
  known = formed r has

  -- its lines at a resolution on which all of it falls
  module _ (step : ℕ) (most : step ≤ 1440) (on : all_fall (head_of r) (parts_of r) step ≡ true) where
    points : Points (head_of r) (part_at r) power_bits (part_count_of r) step
    points = record {
      few = known.sized.few;
      on = on;
      link = links r has;
      early = λ j l. four-small r bytes (part_start j + 4);
      power = λ j l. refl;
      small = λ j l. four-small r bytes (part_start j + 12);
    }

    read_again : report_of (form_on step) ≡ r
    read_again =
        report_back (head_of r) (part_at r) power_bits (text_of r) step (in_range r bytes has) points (omega arith)
        (text-length r known.whole_so) known.sized.short (form_on step) refl
        ∙ encoded r bytes known.whole_so

    step_again : 1 ≤ length (parts_of r) → (lines_in (form_on step)).step ≡ step
    step_again =
        step_back (head_of r) (part_at r) power_bits (text_of r) step (in_range r bytes has) points (omega arith)
        (text-length r known.whole_so) known.sized.short (form_on step) refl

  pub step_of_form : (f : List ℕ) → 1 ≤ length (parts_of r) → form_of r ≡ f → (lines_in f).step ≡ picked
  step_of_form f some e = rw e at (step_again picked picked_most picked_falls some)

  pub read_back : form_read (form_of r) ≡ Ok r
  unfolding form_read pick
  read_back =
      let e = read_again picked picked_most picked_falls in
      rw (e, has, same-list-self (form_of r)) refl

  -- "a form at a finer one is 24"
  pub finer : (step : ℕ) → 1 ≤ length (parts_of r) → step ≤ 1440 → all_fall (head_of r) (parts_of r) step ≡ true
      → (step ≡ picked → ⊥) → form_read (form_on step) ≡ no_report
  unfolding form_read
  finer step some most on other =
      pick-elim (λ (a : Result (List ℕ) FormError). a ≡ no_report) (is_form_of (form_on step) (report_of (form_on step)))
      (λ t.
      let is = is-form (form_on step) (report_of (form_on step)) t in
      let same : form_of r ≡ form_on step = ap form_of (sym (read_again step most on)) ∙ is.same in
      let steps : step ≡ picked
      = sym (step_again step most on some) ∙ ap (λ (f : List ℕ). (lines_in f).step) (sym same)
      ∙ step_again picked picked_most picked_falls some in
      absurd (other steps))
      (λ t. refl)

pub read_has_form : (form s : List ℕ) → form_read form ≡ Ok s → AreBytes s × IsFormOf form s
unfolding form_read
read_has_form form s =
    pick-elim (λ (a : Result (List ℕ) FormError). a ≡ Ok s → AreBytes s × IsFormOf form s) (is_form_of form (report_of form))
    (λ t e.
    let same : report_of form ≡ s = cc e in
    let is = is-form form (report_of form) t in
    let both : AreBytes (report_of form) × IsFormOf form (report_of form) = (report-bytes form is.has, is) in
    rw same at both)
    (λ t e. absurd (cc e))

pub refused : (form : List ℕ) → ((s : List ℕ) → AreBytes s → IsFormOf form s → ⊥) → form_read form ≡ no_report
unfolding form_read
refused form none =
    pick-elim (λ (a : Result (List ℕ) FormError). a ≡ no_report) (is_form_of form (report_of form))
    (λ t.
    let is = is-form form (report_of form) t in
    absurd (none (report_of form) (report-bytes form is.has) is))
    (λ t. refl)

pub only_refused : (form : List ℕ) → form_read form ≡ no_report → (s : List ℕ) → AreBytes s → IsFormOf form s → ⊥
only_refused form e s bytes is =
    let read = ap form_read (sym is.same) ∙ read_back s bytes is.has in
    let wrong : no_report ≡ Ok s = sym e ∙ read in
    cc

pub apart : (s t : List ℕ) → AreBytes s → AreBytes t → has_form s ≡ true → has_form t ≡ true → form_of s ≡ form_of t
    → s ≡ t
apart s t a b p q e =
    let same : Ok s ≡ Ok t = sym (read_back s a p) ∙ ap form_read e ∙ read_back t b q in
    cc
