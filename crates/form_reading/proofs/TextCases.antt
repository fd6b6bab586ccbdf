-- The texts that are read and those that are refused, by computation: dates are read by their digits, without a search. Assumes nothing.
use Prim.Native.Nat.{ℕ, ◌+◌}
use mathlib.Core.Path.{◌≡◌, refl, sym, ap, ◌∙◌}
use mathlib.Core.Bool.{Bool, true, false, ◌&&◌, ◌||◌, not, false≢true, and-false}
use mathlib.Core.Logic.{⊎_elim}
use mathlib.Core.List.{List, [], ◌∷◌}
use Rattle.std.specs.Prelude.{Result, Ok, ◌%◌}
use Rattle.fields.specs.Lists.{pick, all, part, same_list}
use Rattle.fields.proofs.Bools.{and_left, and_right, or_cases, pick-elim}
use Rattle.fields.proofs.Tests.{same-list-true, same-list-self}
use Rattle.calendar.proofs.Reading.{by_digits}
use Rattle.calendar.specs.Calendar.{days_in, month_start, minute_of, month_of, date_of, date_text}
use Rattle.calendar.specs.Digits.{digit_value, date_in, date_by_digits}
use Rattle.quantities.specs.declared.Minute.{Minute}
use Rattle.rules.specs.Cases.{derating}
use Rattle.rules.proofs.Computed.{computed}
use Rattle.forms.specs.declared.FormError.{FormError}
use Rattle.forms.specs.Form.{has_form, form_of, form_at, code_lines, mark_lines, date_lines, part_lines, point_lines, all_fall, resolution_of}
use Rattle.forms.specs.FormCases.{lines, first_form, changed_stop, stop_form, event_form, stepped_derating, stepped_form}
use Rattle.forms.specs.Lent.{form_written}
use Rattle.forms.specs.Values.{line, hex_text, signed_decimal}
use Rattle.texts.specs.Numerals.{decimal_before}
use Rattle.rules.specs.Samples.{◌but◌, stamp, event_at}
use Rattle.calendar.proofs.MonthSums.{month-here}
use native.Mathlib.Omega.{arith}
use Rattle.forms.proofs.FormCases.{march, first_form_of, all_written}
use Rattle.form_reading.specs.declared.DateLines.{DateLines}
use Rattle.form_reading.specs.declared.Lines.{Lines}
use Rattle.form_reading.specs.Reading.{digits_at, number_at, power_at, hex_value, minute_or_0, code_lines_in, mark_lines_in, date_lines_in, resolution_in, point_in, point_at, point_count, text_length_in, head_by, lines_in, report_by, report_of, is_form_of, form_read}
use Rattle.forms.specs.Lent.{no_report}
use Rattle.form_reading.specs.TextCases.{texts_refused, dates_refused, with, AreRefused, AreReadBack}

minute_by : List ℕ → ℕ → Minute
minute_by s at = minute_or_0 (date_by_digits (part s at 16))

unfoldable dates_by : List ℕ → ℕ → DateLines
unfolding minute_by
dates_by s at = record {
  stamp = minute_by s (at + 6);
  period = record { start = minute_by s (at + 29); end = minute_by s (at + 50) };
  next = at + 67;
}

same-dates : (s : List ℕ) (at : ℕ) → date_lines_in s at ≡ dates_by s at
unfolding date_lines_in dates_by minute_by
same-dates s at = rw (by_digits (part s (at + 6) 16), by_digits (part s (at + 29) 16), by_digits (part s (at + 50) 16))

-- `lines_in`, with these dates
unfoldable lines_by : List ℕ → Lines
lines_by s =
    let codes = code_lines_in s in
    let marks = mark_lines_in s codes.next in
    let dates = dates_by s marks.next in
    let step = resolution_in s dates.next in
    let count = point_count s step.next in
    let last = point_at s step.next count in
    record {
      head = head_by codes marks dates count (text_length_in s last);
      step = step.value % 65536;
      points_at = step.next;
      text_at = last + 5;
    }

same-lines : (s : List ℕ) → lines_in s ≡ lines_by s
unfolding lines_in lines_by
same-lines s = rw (same-dates s (mark_lines_in s (code_lines_in s).next).next)

-- what is read has no form, or is the first report though the text is not its form
refused_as : List ℕ → List ℕ → Bool
refused_as s r = not (has_form r) || (same_list r derating && not (same_list (lines first_form) s))

refuses : List ℕ → Bool
refuses s = refused_as s (report_by s (lines_by s))

no-form : (s r : List ℕ) → refused_as s r ≡ true → is_form_of s r ≡ true → ⊥
unfolding refused_as
no-form s r t e =
    let has = and_left (has_form r) (same_list (form_of r) s) e in
    let same = and_right (has_form r) (same_list (form_of r) s) e in
    let is_first = same_list r derating in
    let other = not (same_list (lines first_form) s) in
    ⊎_elim (λ n. false≢true (sym (ap not has) ∙ n))
    (λ n.
    let first = ap form_of (same-list-true r derating (and_left is_first other n)) ∙ first_form_of in
    let listed = sym (ap (λ f. same_list f s) first) ∙ same in
    false≢true (sym (ap not listed) ∙ and_right is_first other n))
    (or_cases (not (has_form r)) (is_first && other) t)

refuses-true : (s : List ℕ) → refuses s ≡ true → form_read s ≡ no_report
unfolding refuses form_read
refuses-true s t =
    let read : report_by s (lines_by s) ≡ report_of s = ap (report_by s) (sym (same-lines s)) in
    let other = sym (ap (refused_as s) read) ∙ t in
    pick-elim (λ (a : Result (List ℕ) FormError). a ≡ no_report) (is_form_of s (report_of s))
    (λ e. absurd (no-form s (report_of s) other e))
    (λ e. refl)

are-refused : (texts : List (List ℕ)) → all refuses texts ≡ true → AreRefused texts
unfolding all
are-refused [] t = tt
are-refused (text ∷ texts) t = (
  refuses-true text (and_left (refuses text) (all refuses texts) t),
  are-refused texts (and_right (refuses text) (all refuses texts) t),
)

pub all_refused : AreRefused texts_refused
unfolding computed refuses refused_as minute_by dates_by lines_by report_by digits_at number_at power_at hex_value code_lines_in mark_lines_in resolution_in point_in point_at point_count has_form same_list digit_value date_in date_by_digits minute_of month_start days_in
all_refused = are-refused texts_refused refl

january : month_of 0 ≡ 0
unfolding month_start days_in computed
january = sym (month-here {day = 0} {n = 0} {s = 0} refl refl (omega arith))

other-form : (s : List ℕ) → same_list (form_of (report_by s (lines_by s))) s ≡ false → form_read s ≡ no_report
unfolding form_read pick
other-form s e = rw (same-lines s, e, and-false (has_form (report_by s (lines_by s))))

stamp-1 : form_read (with 10 "stamp=2026-03-01T00:10") ≡ no_report
unfolding computed minute_by dates_by lines_by report_by digits_at number_at power_at hex_value code_lines_in mark_lines_in resolution_in point_in point_at point_count has_form same_list digit_value date_in date_by_digits minute_of month_start days_in form_at code_lines mark_lines date_lines part_lines point_lines all_fall resolution_of line hex_text signed_decimal decimal_before date_of date_text
stamp-1 = other-form (with 10 "stamp=2026-03-01T00:10") (rw january)

stamp-2 : form_read (with 10 "stamp=2026-03-01 24:10") ≡ no_report
unfolding computed minute_by dates_by lines_by report_by digits_at number_at power_at hex_value code_lines_in mark_lines_in resolution_in point_in point_at point_count has_form same_list digit_value date_in date_by_digits minute_of month_start days_in form_at code_lines mark_lines date_lines part_lines point_lines all_fall resolution_of line hex_text signed_decimal decimal_before date_of date_text
stamp-2 = other-form (with 10 "stamp=2026-03-01 24:10") (rw january)

stamp-3 : form_read (with 10 "stamp=2026-02-29 00:10") ≡ no_report
unfolding computed minute_by dates_by lines_by report_by digits_at number_at power_at hex_value code_lines_in mark_lines_in resolution_in point_in point_at point_count has_form same_list digit_value date_in date_by_digits minute_of month_start days_in form_at code_lines mark_lines date_lines part_lines point_lines all_fall resolution_of line hex_text signed_decimal decimal_before date_of date_text
stamp-3 = other-form (with 10 "stamp=2026-02-29 00:10") (rw january)

start-1 : form_read (with 11 "start=2026-03-01 00:60") ≡ no_report
unfolding computed minute_by dates_by lines_by report_by digits_at number_at power_at hex_value code_lines_in mark_lines_in resolution_in point_in point_at point_count has_form same_list digit_value date_in date_by_digits minute_of month_start days_in form_at code_lines mark_lines date_lines part_lines point_lines all_fall resolution_of line hex_text signed_decimal decimal_before date_of date_text
start-1 = other-form (with 11 "start=2026-03-01 00:60") (rw (march, january))

pub dates_are_refused : AreRefused dates_refused
dates_are_refused = (stamp-1, (stamp-2, (stamp-3, (start-1, tt))))

written-is : (s f : List ℕ) → form_written s ≡ Ok f → is_form_of f s ≡ true
unfolding form_written
written-is s f =
    pick-elim (λ (a : Result (List ℕ) FormError). a ≡ Ok f → is_form_of f s ≡ true) (has_form s)
    (λ t e.
    let same : form_of s ≡ f = cc in
    rw (t, same, same-list-self f))
    (λ t e. absurd (cc))

reads : (s f : List ℕ) → form_written s ≡ Ok f → report_by f (lines_by f) ≡ s → form_read f ≡ Ok s
unfolding form_read pick
reads s f w e =
    let report : report_of f ≡ s = ap (report_by f) (same-lines f) ∙ e in
    rw (report, written-is s f w)

pub all_read : AreReadBack
unfolding computed minute_by dates_by lines_by report_by digits_at number_at power_at hex_value code_lines_in mark_lines_in resolution_in point_in point_at point_count has_form same_list digit_value date_in date_by_digits minute_of month_start days_in
all_read = record {
  first = reads derating (lines first_form) all_written.first refl;
  stopped = reads changed_stop (lines stop_form) all_written.stopped refl;
  event = reads (event_at 5 9 but stamp 10) (lines event_form) all_written.event refl;
  stepped = reads stepped_derating (lines stepped_form) all_written.stepped refl;
}
