-- A date read by its digits, as code goes, without a search. `dates_are_read_by_their_digits` says that it is what `date_read` gives, so
-- that nothing here has to be believed.
use Rattle.std.specs.Prelude.{ℕ, ◌+◌, ◌-◌, ◌*◌, Bool, ◌&&◌, List, [], ◌∷◌, eqb, leb, ltb, length, Result, Ok}
use Rattle.std.specs.List.{list_all}
use Rattle.fields.specs.Fields.{u8_at}
use Rattle.fields.specs.Lists.{pick, every}
use Rattle.quantities.specs.declared.Minute.{Minute}
use Rattle.calendar.specs.declared.Date.{Date}
use Rattle.calendar.specs.declared.DateError.{DateError}
use Rattle.calendar.specs.Calendar.{days_in, minute_of}
use Rattle.calendar.specs.Reading.{no_minute}

-- the value of a digit, 48 being 0; above 9 for a byte that is none
unfoldable pub digit_value : ℕ → ℕ
digit_value c = pick (ltb c 48) (c + 208) (c - 48)

-- the number of the two digits at `at`
abbrev pub two_digits : List ℕ → ℕ → ℕ
two_digits s at = 10 * digit_value (u8_at s at) + digit_value (u8_at s (at + 1))

abbrev pub is_digit : ℕ → Bool
is_digit c = leb 48 c && leb c 57

-- the characters that every date of 2000 to 2049 has, `20..-..-.. ..:..`
abbrev pub fixed_form : List ℕ → List Bool
fixed_form s =
    eqb (u8_at s 0) 50 ∷ eqb (u8_at s 1) 48 ∷ eqb (u8_at s 4) 45 ∷ eqb (u8_at s 7) 45 ∷ eqb (u8_at s 10) 32 ∷ eqb (u8_at s 13) 58 ∷ []

-- The last digit of each number. The one before it is a digit too where the number is in range.
abbrev pub last_digits : List ℕ → List ℕ
last_digits s = u8_at s 3 ∷ u8_at s 6 ∷ u8_at s 9 ∷ u8_at s 12 ∷ u8_at s 15 ∷ []

abbrev pub has_date_form : List ℕ → Bool
has_date_form s = every (fixed_form s) && list_all is_digit (last_digits s)

unfoldable pub date_in : List ℕ → Date
date_in s = record {
  year = 2000 + two_digits s 2;
  month = two_digits s 5;
  day = two_digits s 8;
  hour = two_digits s 11;
  minute = two_digits s 14;
}

-- a month of the fifty years
abbrev pub is_month : Date → Bool
is_month d = leb 2000 d.year && leb d.year 2049 && leb 1 d.month && leb d.month 12

-- a day of a month of so many, and a minute of a day
abbrev pub is_day_and_minute : Date → ℕ → Bool
is_day_and_minute d days = leb 1 d.day && leb d.day days && ltb d.hour 24 && ltb d.minute 60

abbrev pub minute_in_month : Date → Result Minute DateError
minute_in_month d =
    pick (is_day_and_minute d (days_in d.year d.month)) (Ok (minute_of d)) no_minute

-- the minute of a date of the fifty years, and 23 for what is none
abbrev pub minute_read : Date → Result Minute DateError
minute_read d = pick (is_month d) (minute_in_month d) no_minute

unfoldable pub date_by_digits : List ℕ → Result Minute DateError
date_by_digits s = pick (eqb (length s) 16) (pick (has_date_form s) (minute_read (date_in s)) no_minute) no_minute
