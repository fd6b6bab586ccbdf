-- A date's digits give the date again, and a text's digits its minute: the one whose print it is. Assumes nothing.
use Rattle.std.specs.Prelude.{Result, Ok}
use Prim.Native.Nat.{ℕ, ◌+◌, ◌-◌, ◌*◌, ◌/◌, ◌%◌, ◌≤◌, ◌<◌}
use mathlib.Core.Path.{◌≡◌, refl, ap, sym, ◌∙◌}
use mathlib.Core.Bool.{Bool, true, false, false≢true}
use mathlib.Core.List.{List, [], ◌∷◌}
use mathlib.Core.Logic.{⊎_elim}
use native.Mathlib.Omega.{arith}
use native.Mathlib.Nat.{div-div-eq-div-mul, zero-add}
use native.Mathlib.Numerals.{add-one}
use lib.Dec.{leb, ltb, eqb}
use lib.ListN.{length}
use lib.Seq.{ext_get_or}
use borrow.Author.Tests.{lt-ltb, ltb-true, ltb-false, le-ltb, le-leb, lt-leb, leb-true, eqb-true, eq-eqb, ne_eqb}
use Rattle.std.specs.List.{list_all}
use Rattle.std.proofs.lemmas.List.Sums.{AllPass-from_list_all}
use Rattle.fields.specs.Lists.{pick, every, and_each, series, seek, same_list, put}
use Rattle.fields.specs.Fields.{u8_at}
use Rattle.fields.proofs.Bools.{and_left, and_right, and_both, pick-elim, lt-or-le, range-true, range-intro, every_true}
use Rattle.fields.proofs.Tests.{series-length, series-at, seek_found, seek-none, same-list-true, same-list-self}
use Rattle.quantities.specs.declared.Minute.{Minute}
use Rattle.quantities.specs.Quantities.{last_minute, is_time}
use Rattle.calendar.specs.declared.Date.{Date}
use Rattle.calendar.specs.declared.DateError.{DateError}
use Rattle.calendar.specs.Calendar.{digit, days_in, month_length, month_start, minute_of, date_of, date_text, print_answer, RightDate}
use Rattle.calendar.specs.Reading.{print_of, is_print_of, PrintIs, printed_minute, read_minute, no_minute, date_read, date_put}
use Rattle.calendar.specs.Digits.{digit_value, two_digits, is_digit, fixed_form, last_digits, has_date_form, date_in, is_month, is_day_and_minute, minute_read, date_by_digits}
use Rattle.calendar.proofs.Months.{start-mono}
use Rattle.calendar.proofs.Dates.{years-end, start-next, date-right, month_number, year-and-month, date-only}

-- a digit and its value
value_of : (n : ℕ) → digit_value (digit n) ≡ n % 10
unfolding digit_value pick
value_of n = rw (le-ltb (digit n) 48 (omega arith)) (omega arith)

digit-most : (c : ℕ) → is_digit c ≡ true → digit_value c ≤ 9
unfolding digit_value pick
digit-most c t =
    let r = range-true 48 57 c t in
    rw (le-ltb c 48 r.0) (omega (arith, r))

digit-of : (c : ℕ) → digit_value c ≤ 9 → 48 + digit_value c ≡ c
unfolding digit_value
digit-of c =
    pick-elim (λ (v : ℕ). v ≤ 9 → 48 + v ≡ c) (ltb c 48) (λ t l. absurd (omega arith)) (λ t l. omega (arith, ltb-false c 48 t))

-- the digits of a date are its numbers
two_digits-read : (n : ℕ) → n < 100 → 10 * digit_value (digit (n / 10)) + digit_value (digit n) ≡ n
two_digits-read n l = rw (value_of (n / 10), value_of n) (omega arith)

year-digits : (n : ℕ) → 2000 ≤ n → n ≤ 2049 → 2000 + (10 * digit_value (digit (n / 10)) + digit_value (digit n)) ≡ n
year-digits n l h =
    rw (value_of (n / 10), value_of n) (omega (arith, div-div-eq-div-mul n 10 10))

pub days-most : (y m : ℕ) → days_in y m ≤ 31
unfolding days_in
days-most y m =
    pick-elim (λ (n : ℕ). n ≤ 31) _
    (λ e. pick-elim (λ (n : ℕ). n ≤ 31) _ (λ f. omega arith) (λ f. omega arith))
    (λ e. pick-elim (λ (n : ℕ). n ≤ 31) _ (λ f. omega arith) (λ f. omega arith))

digits-back : {m : Minute} (d : Date) → RightDate m d → date_in (date_text d) ≡ d
unfolding date_in date_text
digits-back d r =
    rw (
      year-digits d.year r.in_range.0 r.in_range.1,
      two_digits-read d.month (omega (arith, r.in_year)),
      two_digits-read d.day (omega (arith, r.in_month, days-most d.year d.month)),
      two_digits-read d.hour (omega (arith, r.in_day)),
      two_digits-read d.minute (omega (arith, r.in_hour)),
    )

last-digit : (n : ℕ) → is_digit (digit n) ≡ true
last-digit n = range-intro 48 57 (digit n) (omega arith) (omega arith)

form-back : {m : Minute} (d : Date) → RightDate m d → has_date_form (date_text d) ≡ true
unfolding date_text every and_each
form-back d r =
    let thousands : digit (d.year / 1000) ≡ 50 = omega (arith, r.in_range) in
    let hundreds : digit (d.year / 100) ≡ 48 = omega (arith, r.in_range) in
    rw (thousands, hundreds, last-digit d.year, last-digit d.month, last-digit d.day, last-digit d.hour, last-digit d.minute)

-- and a text of that form is that of the numbers where its digits stand, if they are in range
two_back : (s : List ℕ) (at : ℕ) → two_digits s at < 100 → digit_value (u8_at s (at + 1)) ≤ 9
    → (digit (two_digits s at / 10) ≡ u8_at s at) × (digit (two_digits s at) ≡ u8_at s (at + 1))
two_back s at l x =
    let first = digit-of (u8_at s at) (omega arith) in
    let second = digit-of (u8_at s (at + 1)) x in
    (omega (arith, first), omega (arith, second))

year-back : (s : List ℕ) → two_digits s 2 ≤ 49 → digit_value (u8_at s 3) ≤ 9 → let y = 2000 + two_digits s 2 in
    (digit (y / 1000) ≡ 50) × (digit (y / 100) ≡ 48) × (digit (y / 10) ≡ u8_at s 2) × (digit y ≡ u8_at s 3)
year-back s l x =
    let first = digit-of (u8_at s 2) (omega arith) in
    let second = digit-of (u8_at s 3) x in
    (omega (arith, l), omega (arith, l), omega (arith, first, l), omega (arith, second))

series-self : (s : List ℕ) (n : ℕ) → length s ≡ n → series (u8_at s) 0 n ≡ s
series-self s n e =
    ext_get_or 0 (series (u8_at s) 0 n) s (series-length (u8_at s) 0 n ∙ sym e)
    (λ i l. series-at (u8_at s) 0 n i 0 (rw (series-length (u8_at s) 0 n) at l) ∙ rw zero-add)

-- the tests of the form, each as a fact
record Form (s : List ℕ) : Type 0 where
  millennium : u8_at s 0 ≡ 50
  century : u8_at s 1 ≡ 48
  after_year : u8_at s 4 ≡ 45
  after_month : u8_at s 7 ≡ 45
  after_day : u8_at s 10 ≡ 32
  after_hour : u8_at s 13 ≡ 58
  year : digit_value (u8_at s 3) ≤ 9
  month : digit_value (u8_at s 6) ≤ 9
  day : digit_value (u8_at s 9) ≤ 9
  hour : digit_value (u8_at s 12) ≤ 9
  minute : digit_value (u8_at s 15) ≤ 9

form-tests : (s : List ℕ) → has_date_form s ≡ true → Form s
form-tests s f =
    let fixed = every (fixed_form s) in
    let last = list_all is_digit (last_digits s) in
    let t = every_true (fixed_form s) (and_left fixed last f) in
    let digit = AllPass-from_list_all is_digit (last_digits s) (and_right fixed last f) in
    record {
      millennium = eqb-true _ 50 t.0;
      century = eqb-true _ 48 t.1.0;
      after_year = eqb-true _ 45 t.1.1.0;
      after_month = eqb-true _ 45 t.1.1.1.0;
      after_day = eqb-true _ 32 t.1.1.1.1.0;
      after_hour = eqb-true _ 58 t.1.1.1.1.1.0;
      year = digit-most (u8_at s 3) (digit 0 0 (omega arith));
      month = digit-most (u8_at s 6) (digit 1 0 (omega arith));
      day = digit-most (u8_at s 9) (digit 2 0 (omega arith));
      hour = digit-most (u8_at s 12) (digit 3 0 (omega arith));
      minute = digit-most (u8_at s 15) (digit 4 0 (omega arith));
    }

text-back : {m : Minute} (s : List ℕ) → length s ≡ 16 → has_date_form s ≡ true → RightDate m (date_in s) → date_text (date_in s) ≡ s
unfolding date_text date_in series
text-back s n f r =
    let form = form-tests s f in
    let days = days-most (date_in s).year (date_in s).month in
    let year = year-back s (omega (arith, r.in_range)) form.year in
    let month = two_back s 5 (omega (arith, r.in_year)) form.month in
    let day = two_back s 8 (omega (arith, r.in_month, days)) form.day in
    let hour = two_back s 11 (omega (arith, r.in_day)) form.hour in
    let minute = two_back s 14 (omega (arith, r.in_hour)) form.minute in
    let same : date_text (date_in s) ≡ series (u8_at s) 0 16
    = rw (
      year.0,
      year.1,
      year.2,
      year.3,
      month.0,
      month.1,
      day.0,
      day.1,
      hour.0,
      hour.1,
      minute.0,
      minute.1,
      form.millennium,
      form.century,
      form.after_year,
      form.after_month,
      form.after_day,
      form.after_hour,
    ) in
    same ∙ series-self s 16 n

-- the tests of a date, as ranges
pub month-ranges : (d : Date) → is_month d ≡ true → (2000 ≤ d.year) × (d.year ≤ 2049) × (1 ≤ d.month) × (d.month ≤ 12)
unfolding every and_each
month-ranges d x =
    let t = every_true (leb 2000 d.year ∷ leb d.year 2049 ∷ leb 1 d.month ∷ leb d.month 12 ∷ []) x in
    (leb-true _ _ t.0, leb-true _ _ t.1.0, leb-true _ _ t.1.1.0, leb-true _ _ t.1.1.1.0)

pub day-ranges : (d : Date) (days : ℕ) → is_day_and_minute d days ≡ true
    → (1 ≤ d.day) × (d.day ≤ days) × (d.hour < 24) × (d.minute < 60)
unfolding every and_each
day-ranges d days x =
    let t = every_true (leb 1 d.day ∷ leb d.day days ∷ ltb d.hour 24 ∷ ltb d.minute 60 ∷ []) x in
    (leb-true _ _ t.0, leb-true _ _ t.1.0, ltb-true _ _ t.1.1.0, ltb-true _ _ t.1.1.1.0)

-- a date passes them exactly where it is that of its minute
date-tests : (d : Date) → is_month d ≡ true → is_day_and_minute d (days_in d.year d.month) ≡ true → RightDate (minute_of d) d
date-tests d x y =
    let m = month-ranges d x in
    let n = day-ranges d (days_in d.year d.month) y in
    record { in_range = (m.0, m.1); in_year = (m.2, m.3); in_month = (n.0, n.1); in_day = n.2; in_hour = n.3; same = refl }

right-month : {m : Minute} (d : Date) → RightDate m d → is_month d ≡ true
right-month d r =
    and_both (and_both (and_both (le-leb _ _ r.in_range.0) (le-leb _ _ r.in_range.1)) (le-leb _ _ r.in_year.0))
    (le-leb _ _ r.in_year.1)

right-day : {m : Minute} (d : Date) → RightDate m d → is_day_and_minute d (days_in d.year d.month) ≡ true
right-day d r =
    and_both (and_both (and_both (le-leb _ _ r.in_month.0) (le-leb _ _ r.in_month.1)) (lt-ltb _ _ r.in_day))
    (lt-ltb _ _ r.in_hour)

-- the month of a date, and the day after it
module _ (d : Date) (r : (2000 ≤ d.year) × (d.year ≤ 2049) × (1 ≤ d.month) × (d.month ≤ 12)) where
  month-length : month_start (month_number d + 1) ≡ month_start (month_number d) + days_in d.year d.month
  month-length =
      let e = year-and-month d r.0 r.2 r.3 in
      let len : month_length (month_number d) ≡ days_in d.year d.month = rw (e.0, e.1) in
      rw (add-one, start-next (month_number d), len)

  month-end : month_start (month_number d) + days_in d.year d.month ≤ 18263
  month-end =
      let ends = start-mono (month_number d + 1) 600 (omega (arith, r)) in
      omega (arith, ends, month-length, years-end)

minute-in-range : {m : Minute} (d : Date) → RightDate m d → m.0 ≤ last_minute
unfolding minute_of
minute-in-range {m} d r =
    let v : ((month_start (month_number d) + (d.day - 1)) * 24 + d.hour) * 60 + d.minute ≡ m.0 = ap (λ (x : Minute). x.0) r.same in
    omega (arith, v, month-end d (r.in_range.0, r.in_range.1, r.in_year.0, r.in_year.1), r.in_month, r.in_day, r.in_hour)

-- "every minute in range comes back from its own print", by its digits
print-read : (m : Minute) → m.0 ≤ last_minute → date_by_digits (print_of m) ≡ read_minute m.0
unfolding date_by_digits pick date_text
print-read m l =
    let d = date_of m in
    let r = date-right m l in
    rw (form-back d r, digits-back d r, right-month d r, right-day d r, r.same)

-- what a text's digits give: a minute whose print it is, or none
right-print : (s : List ℕ) → RightDate (minute_of (date_in s)) (date_in s) → date_text (date_in s) ≡ s → PrintIs (minute_of (date_in s)) s
right-print s r same = record {
  in_range = minute-in-range (date_in s) r;
  printed_back = ap date_text (sym (date-only (minute_of (date_in s)) (date_in s) r)) ∙ same;
}

digits-give {ℓ} : (P : Result Minute DateError → Type ℓ) (s : List ℕ)
    → (PrintIs (minute_of (date_in s)) s → P (read_minute (minute_of (date_in s)).0)) → P no_minute → P (date_by_digits s)
unfolding date_by_digits
digits-give P s some none =
    pick-elim P (eqb (length s) 16)
    (λ n. pick-elim P (has_date_form s)
    (λ f. pick-elim P (is_month (date_in s))
    (λ x. pick-elim P (is_day_and_minute (date_in s) (days_in (date_in s).year (date_in s).month))
    (λ y.
    let r = date-tests (date_in s) x y in
    some (right-print s r (text-back s (eqb-true (length s) 16 n) f r)))
    (λ e. none)) (λ e. none)) (λ e. none)) (λ e. none)

-- "printing that minute gives the text again"
read-print : (s : List ℕ) (m : Minute) → date_by_digits s ≡ Ok m → PrintIs m s
read-print s =
    digits-give (λ r. (m : Minute) → r ≡ Ok m → PrintIs m s) s
    (λ p m e.
    let same : minute_of (date_in s) ≡ m = cc in
    rw same at p)
    (λ m e. absurd (cc))

no-print : (s : List ℕ) → ((m : Minute) → PrintIs m s → ⊥) → date_by_digits s ≡ no_minute
no-print s none = digits-give (λ r. r ≡ no_minute) s (λ p. absurd (none _ p)) refl

-- a search finds the minute that the digits give
module _ (s : List ℕ) where
  found : printed_minute s < last_minute + 1 → date_read s ≡ date_by_digits s
  unfolding date_read printed_minute pick
  found l =
      let k = seek (is_print_of s) 0 (last_minute + 1) in
      let printed = same-list-true (print_of (record { 0 = k })) s (seek_found (is_print_of s) 0 (last_minute + 1) l) in
      rw (le-leb k last_minute (omega arith)) (sym (print-read (record { 0 = k }) (omega arith)) ∙ ap date_by_digits printed)

  missed : last_minute + 1 ≤ printed_minute s → date_read s ≡ date_by_digits s
  unfolding date_read printed_minute pick
  missed l =
      let k = seek (is_print_of s) 0 (last_minute + 1) in
      rw (lt-leb k last_minute (omega arith))
      (sym
      (no-print s
      (λ m p.
      let none = seek-none (is_print_of s) 0 (last_minute + 1) m.0 l (omega arith) (omega (arith, p.in_range)) in
      let one : same_list (print_of m) s ≡ true = rw p.printed_back (same-list-self s) in
      false≢true (sym none ∙ one))))

  pub by_digits : date_read s ≡ date_by_digits s
  by_digits = ⊎_elim found missed (lt-or-le (printed_minute s) (last_minute + 1))

-- what code answers, by its tests in turn
module _ (s : List ℕ) where
  pub other_length : (length s ≡ 16 → ⊥) → no_minute ≡ date_read s
  unfolding date_by_digits pick
  other_length ne = sym (by_digits s ∙ rw (ne_eqb (length s) 16 ne))

  pub by_form : length s ≡ 16 → pick (has_date_form s) (minute_read (date_in s)) no_minute ≡ date_read s
  unfolding date_by_digits pick
  by_form n = sym (by_digits s ∙ rw (eq-eqb (length s) 16 n))

-- the claims
pub text-printed : (s : List ℕ) (m : Minute) → date_read s ≡ Ok m → PrintIs m s
text-printed s = rw (by_digits s) (read-print s)

pub minute-back : (m : Minute) → m.0 ≤ last_minute → date_read (print_of m) ≡ Ok m
minute-back m l = by_digits (print_of m) ∙ print-read m l

pub prints-apart : (m n : Minute) → m.0 ≤ last_minute → n.0 ≤ last_minute → print_of m ≡ print_of n → m ≡ n
prints-apart m n l k e =
    let same = sym (minute-back m l) ∙ ap date_read e ∙ minute-back n k in
    cc

pub refused : (s : List ℕ) → ((m : Minute) → PrintIs m s → ⊥) → date_read s ≡ no_minute
refused s none = by_digits s ∙ no-print s none

pub refused-only : (s : List ℕ) → date_read s ≡ no_minute → (m : Minute) → PrintIs m s → ⊥
refused-only s e m p =
    let read = ap date_read (sym p.printed_back) ∙ minute-back m p.in_range in
    let wrong : no_minute ≡ Ok m = sym e ∙ read in
    cc

-- a print stands at the start of a text that has room for it
pub date_there : (m : Minute) (text date : List ℕ) → print_answer m ≡ Ok date → 16 ≤ length text → put text 0 date ≡ date_put m text
unfolding pick
date_there m text date e l = by-case (is_time m) refl where
  by-case : (t : Bool) → is_time m ≡ t → put text 0 date ≡ date_put m text
  by-case true t =
      let printed : print_of m ≡ date = (let ok = rw t at e in cc) in
      rw (t, le-leb 16 (length text) l, ← printed) refl
  by-case false t =
      let no = rw t at e in
      absurd (cc)
