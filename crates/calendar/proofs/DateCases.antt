-- The worked dates: their digits are computed, and the digits give what a search would. Assumes nothing.
use Rattle.std.specs.Prelude.{Result, Ok, Err}
use Prim.Native.Nat.{ℕ}
use Prim.Native.String.{String}
use mathlib.Core.Path.{◌≡◌, refl, ap, ◌∙◌}
use mathlib.Core.Bool.{Bool, true, false, false≢true}
use mathlib.Core.List.{List, [], ◌∷◌}
use lib.Dec.{eqb}
use borrow.Author.Tests.{eqb-true}
use Rattle.fields.specs.Ascii.{ascii}
use Rattle.fields.specs.Lists.{pick, every, and_each, all, put}
use Rattle.fields.proofs.Bools.{and_left, and_right}
use Rattle.quantities.specs.declared.Minute.{Minute}
use Rattle.calendar.specs.declared.DateError.{DateError}
use Rattle.calendar.specs.Refusals.{answer_number}
use Rattle.calendar.specs.Calendar.{days_in, month_start, minute_of}
use Rattle.calendar.specs.Reading.{print_of, read_minute, date_read}
use Rattle.calendar.specs.Digits.{digit_value, date_in, date_by_digits}
use Rattle.calendar.specs.DateCases.{TypedDate, dates_read, texts_refused, AreRead, AreRefused, RoomIsAsked}
use Rattle.calendar.proofs.Reading.{by_digits, text-printed}

-- an answer gives the minute
unfoldable is_given : Result Minute DateError → ℕ → Bool
is_given (Ok n) m = eqb n.0 m
is_given (Err e) m = false

given : (r : Result Minute DateError) (m : ℕ) → is_given r m ≡ true → r ≡ read_minute m
unfolding is_given
given (Ok n) m t = ap read_minute (eqb-true n.0 m t)
given (Err e) m t = absurd (false≢true t)

-- a text is read as the minute
gives : ℕ → String → Bool
gives m text = is_given (date_by_digits (ascii text)) m

gives-true : (m : ℕ) (text : String) → gives m text ≡ true → date_read (ascii text) ≡ read_minute m
unfolding gives
gives-true m text t = by_digits (ascii text) ∙ given _ m t

are-read : (ds : List TypedDate) → all (λ d. gives d.minute d.text) ds ≡ true → AreRead ds
unfolding all
are-read [] t = tt
are-read (d ∷ ds) t =
    let first = gives d.minute d.text in
    let rest = all (λ d. gives d.minute d.text) ds in
    (gives-true d.minute d.text (and_left first rest t), are-read ds (and_right first rest t))

-- a text is refused
refuses : String → Bool
refuses text = eqb (answer_number (date_by_digits (ascii text))) 23

refuses-true : (text : String) → refuses text ≡ true → answer_number (date_read (ascii text)) ≡ 23
unfolding refuses
refuses-true text t = ap answer_number (by_digits (ascii text)) ∙ eqb-true _ 23 t

are-refused : (texts : List String) → all refuses texts ≡ true → AreRefused texts
unfolding all
are-refused [] t = tt
are-refused (text ∷ texts) t = (
  refuses-true text (and_left (refuses text) (all refuses texts) t),
  are-refused texts (and_right (refuses text) (all refuses texts) t),
)

pub dates-read : AreRead dates_read
unfolding all gives is_given date_by_digits date_in digit_value minute_of month_start days_in pick every and_each
dates-read = are-read dates_read refl

pub texts-refused : AreRefused texts_refused
unfolding all refuses date_by_digits date_in digit_value minute_of month_start days_in pick every and_each
texts-refused = are-refused texts_refused refl

-- the print of a minute that a text gives is the text
prints : (text : String) (m : ℕ) → gives m text ≡ true → print_of (record { 0 = m }) ≡ ascii text
prints text m t = (text-printed (ascii text) (record { 0 = m }) (gives-true m text t)).printed_back

pub room-is-asked : RoomIsAsked
unfolding gives is_given date_by_digits date_in digit_value minute_of month_start days_in pick every and_each put
room-is-asked = record {
  none = (refl, refl);
  fifteen = (refl, refl);
  sixteen = (refl, rw (prints "2000-01-01 00:00" 0 refl));
  eighteen = (refl, rw (prints "2026-03-01 00:10" 13760650 refl));
  last = (refl, rw (prints "2049-12-31 23:59" 26298719 refl));
  later = (refl, refl);
  later_first = (refl, refl);
}
