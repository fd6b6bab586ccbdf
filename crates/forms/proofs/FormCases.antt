-- The worked forms, by computation. Assumes nothing.
use native.Mathlib.Omega.{arith}
use mathlib.Core.Path.{◌≡◌, refl, sym}
use mathlib.Core.List.{[]}
use Rattle.std.specs.Prelude.{Ok}
use Rattle.rules.specs.Boundaries.Tests.{failing}
use Rattle.rules.specs.Samples.{◌but◌, stamp, event_at}
use Rattle.rules.specs.Cases.{derating}
use Rattle.rules.proofs.Computed.{computed}
use Rattle.calendar.specs.Calendar.{days_in, month_start, month_of, date_of, date_text}
use Rattle.calendar.proofs.MonthSums.{month-here}
use Rattle.texts.specs.Numerals.{decimal_before}
use Rattle.forms.specs.Values.{line, hex_text, signed_decimal}
use Rattle.forms.specs.Form.{has_form, code_lines, mark_lines, date_lines, all_fall, resolution_of, point_lines, part_lines, form_at, form_of}
use Rattle.forms.specs.Lent.{length_given, buffer_after, form_written}
use Rattle.forms.specs.FormCases.{lines, first_form, changed_stop, stop_form, event_form, stepped_derating, stepped_form, AreWritten, formed, resolutions, RoomIsAsked}

pub march : month_of 9556 ≡ 314
unfolding month_start days_in computed
march = sym (month-here {day = 9556} {n = 314} {s = 9556} refl refl (omega arith))

pub first_form_of : form_of derating ≡ lines first_form
unfolding computed has_form form_at code_lines mark_lines date_lines part_lines point_lines all_fall resolution_of line hex_text signed_decimal decimal_before date_of date_text month_start days_in
first_form_of = rw march

first : form_written derating ≡ Ok (lines first_form)
unfolding computed form_written has_form form_at code_lines mark_lines date_lines part_lines point_lines all_fall resolution_of line hex_text signed_decimal decimal_before date_of date_text month_start days_in
first = rw march

stopped : form_written changed_stop ≡ Ok (lines stop_form)
unfolding computed form_written has_form form_at code_lines mark_lines date_lines part_lines point_lines all_fall resolution_of line hex_text signed_decimal decimal_before date_of date_text month_start days_in
stopped = rw march

event : form_written (event_at 5 9 but stamp 10) ≡ Ok (lines event_form)
unfolding computed form_written has_form form_at code_lines mark_lines date_lines part_lines point_lines all_fall resolution_of line hex_text signed_decimal decimal_before date_of date_text month_start days_in
event = rw march

stepped : form_written stepped_derating ≡ Ok (lines stepped_form)
unfolding computed form_written has_form form_at code_lines mark_lines date_lines part_lines point_lines all_fall resolution_of line hex_text signed_decimal decimal_before date_of date_text month_start days_in
stepped = rw march

pub all_written : AreWritten
all_written = record { first = first; stopped = stopped; event = event; stepped = stepped }

pub all_formed : failing 1 formed ≡ []
unfolding computed failing has_form
all_formed = refl

pub all_resolutions : failing 1 resolutions ≡ []
unfolding computed failing all_fall resolution_of
all_resolutions = refl

pub room_is_asked : RoomIsAsked
unfolding computed has_form form_written length_given buffer_after
room_is_asked = record {
  short = (refl, refl);
  exact = (refl, refl);
  more = (refl, refl);
  no_form = (refl, refl);
  no_form_first = refl;
  no_form_keeps = refl;
}
