-- Paper 02, A3, "Dates typed back in": a text gives the minute whose print it is. Then what a lent text holds after a print.
use Rattle.std.specs.Prelude.{ℕ, ◌+◌, ◌≤◌, ◌≡◌, Bool, List, leb, length, Result, Ok, Err}
use Rattle.fields.specs.Lists.{pick, same_list, seek, put}
use Rattle.quantities.specs.Quantities.{last_minute, is_time}
use Rattle.quantities.specs.declared.Minute.{Minute}
use Rattle.calendar.specs.declared.DateError.{DateError}
use Rattle.calendar.specs.declared.DateError.TheVariants.{NoTime, NoPrint, NoRoom}
use Rattle.calendar.specs.Calendar.{date_of, date_text}

-- "its own print": the text that is printed for a minute
abbrev pub print_of : Minute → List ℕ
print_of m = date_text (date_of m)

abbrev pub is_print_of : List ℕ → ℕ → Bool
is_print_of text m = same_list (print_of (record { 0 = m })) text

-- the minute is in range and its print is the text
pub record PrintIs (m : Minute) (text : List ℕ) : Type 0 where
  pub in_range : m.0 ≤ last_minute
  pub printed_back : print_of m ≡ text

-- the minute in range whose print is the text; the one after the last where there is none
unfoldable pub printed_minute : List ℕ → ℕ
printed_minute text = seek (is_print_of text) 0 (last_minute + 1)

abbrev pub read_minute : ℕ → Result Minute DateError
read_minute m = Ok (record { 0 = m })

abbrev pub no_minute : Result Minute DateError
no_minute = Err NoPrint

-- "A text such as 2026-03-01 00:10, exactly sixteen characters, is to give its minute ..
-- a text that is the print of no minute is 23, asked alone."
unfoldable pub date_read : List ℕ → Result Minute DateError
date_read text = pick (leb (printed_minute text) last_minute) (read_minute (printed_minute text)) no_minute

-- A lent text of any length: 22 for a minute that is no time, then 43 where the text has fewer than sixteen bytes.
abbrev pub put_answer : Minute → List ℕ → Result Unit DateError
put_answer m text = pick (is_time m) (pick (leb 16 (length text)) (Ok tt) (Err NoRoom)) (Err NoTime)

-- "past an answer a lent buffer .. keeps its bytes", and at a refusal all of them
abbrev pub date_put : Minute → List ℕ → List ℕ
date_put m text = pick (is_time m) (pick (leb 16 (length text)) (put text 0 (print_of m)) text) text
