-- 02, A3, "Dates typed back in": texts that just pass and texts that just fail, and lent texts with and without room.
use Rattle.std.specs.Prelude.{ℕ, ◌≡◌, List, [], ◌∷◌, ◌++◌, replicate}
use Prim.Native.String.{String}
use Rattle.fields.specs.Ascii.{ascii}
use Rattle.calendar.specs.Refusals.{answer_number}
use Rattle.calendar.specs.Reading.{read_minute, date_read, put_answer, date_put}

-- a text and the minute that it gives
pub record TypedDate : Type 0 where
  pub text : String
  pub minute : ℕ

infix 70 ◌is◌
abbrev pub ◌is◌ : String → ℕ → TypedDate
text is m = record { text = text; minute = m }

abbrev pub dates_read : List TypedDate
dates_read =
    "2000-01-01 00:00" is 0
    ∷ "2000-01-01 00:01" is 1
    ∷ "2000-01-01 00:59" is 59
    ∷ "2000-01-01 01:00" is 60
    ∷ "2000-01-01 23:59" is 1439
    ∷ "2000-01-02 00:00" is 1440
    ∷ "2000-01-31 23:59" is 44639
    ∷ "2000-02-01 00:00" is 44640
    ∷ "2000-02-28 23:59" is 84959
    ∷ "2000-02-29 00:00" is 84960
    ∷ "2000-02-29 23:59" is 86399
    ∷ "2000-03-01 00:00" is 86400
    ∷ "2001-02-28 23:59" is 611999
    ∷ "2001-03-01 00:00" is 612000
    ∷ "2004-02-29 12:30" is 2189550
    ∷ "2009-09-09 09:09" is 5096709
    ∷ "2010-10-10 10:10" is 5667010
    ∷ "2019-12-31 23:59" is 10519199
    ∷ "2020-01-01 00:00" is 10519200
    ∷ "2024-02-29 00:00" is 12708000
    ∷ "2025-02-28 00:00" is 13233600
    ∷ "2025-04-30 00:00" is 13321440
    ∷ "2025-06-30 00:00" is 13409280
    ∷ "2025-09-30 00:00" is 13541760
    ∷ "2025-11-30 00:00" is 13629600
    ∷ "2025-12-31 00:00" is 13674240
    ∷ "2026-03-01 00:10" is 13760650
    ∷ "2049-12-31 23:59" is 26298719
    ∷ []

abbrev pub texts_refused : List String
texts_refused =
    -- another length
    ""
    ∷ "2026-03-01 00:1"
    ∷ "2026-03-01 00:100"
    ∷ " 2026-03-01 00:10"
    ∷ "2026-03-01 00:10 "
    ∷ "2026-03-01"
    ∷ "00:10"
    -- a separator
    ∷ "2026/03-01 00:10"
    ∷ "2026-03/01 00:10"
    ∷ "2026-03-01T00:10"
    ∷ "2026-03-01_00:10"
    ∷ "2026-03-01 00.10"
    ∷ "2026-03-01 00-10"
    ∷ "2026:03:01 00:10"
    -- a sign, a blank or a letter where a digit stands, or a field of one digit
    ∷ "+026-03-01 00:10"
    ∷ "-026-03-01 00:10"
    ∷ "2O26-03-01 00:10"
    ∷ "2026- 3-01 00:10"
    ∷ "2026-3-001 00:10"
    ∷ "2026-03- 1 00:10"
    ∷ "2026-03-1 00:100"
    ∷ "2026-03-01  0:10"
    ∷ "2026-03-01 +0:10"
    ∷ "2026-03-01 00:1 "
    ∷ "2026-03-01 00: 1"
    ∷ "2026-03-01 00:-1"
    ∷ "2026-03-01 0:100"
    ∷ "/026-03-01 00:10"
    ∷ ":026-03-01 00:10"
    -- years before 2000 and after 2049
    ∷ "1999-12-31 23:59"
    ∷ "2050-01-01 00:00"
    ∷ "0000-01-01 00:00"
    ∷ "9999-12-31 23:59"
    ∷ "1949-12-31 23:59"
    ∷ "2100-02-28 00:00"
    -- months and days
    ∷ "2026-00-01 00:10"
    ∷ "2026-13-01 00:10"
    ∷ "2026-03-00 00:10"
    ∷ "2026-03-32 00:10"
    ∷ "2026-01-32 00:00"
    ∷ "2025-04-31 00:00"
    ∷ "2025-06-31 00:00"
    ∷ "2025-09-31 00:00"
    ∷ "2025-11-31 00:00"
    ∷ "2026-99-99 99:99"
    -- 29 February
    ∷ "2001-02-29 00:00"
    ∷ "2024-02-30 00:00"
    ∷ "2025-02-29 00:00"
    ∷ "2000-02-30 00:00"
    ∷ "2100-02-29 00:00"
    -- hours and minutes: nothing is carried over
    ∷ "2026-03-01 24:00"
    ∷ "2026-03-01 24:01"
    ∷ "2026-03-01 00:60"
    ∷ "2026-03-01 23:60"
    ∷ "2049-12-31 24:00"
    ∷ "2026-03-01 99:00"
    ∷ []

abbrev pub AreRead : List TypedDate → Type 0
AreRead [] = Unit {0}
AreRead (d ∷ ds) = (date_read (ascii d.text) ≡ read_minute d.minute) × AreRead ds

abbrev pub AreRefused : List String → Type 0
AreRefused [] = Unit {0}
AreRefused (text ∷ texts) = (answer_number (date_read (ascii text)) ≡ 23) × AreRefused texts

-- A lent text of n bytes 7 that a date is printed into: which number, and what it holds then.
abbrev pub lent : ℕ → List ℕ
lent n = replicate n 7

abbrev pub answered : ℕ → ℕ → ℕ
answered m n = answer_number (put_answer (record { 0 = m }) (lent n))

abbrev pub left : ℕ → ℕ → List ℕ
left m n = date_put (record { 0 = m }) (lent n)

pub record RoomIsAsked : Type 0 where
  pub none : (answered 0 0 ≡ 43) × (left 0 0 ≡ [])
  pub fifteen : (answered 0 15 ≡ 43) × (left 0 15 ≡ lent 15)
  pub sixteen : (answered 0 16 ≡ 0) × (left 0 16 ≡ ascii "2000-01-01 00:00")
  pub eighteen : (answered 13760650 18 ≡ 0) × (left 13760650 18 ≡ ascii "2026-03-01 00:10" ++ (7 ∷ 7 ∷ []))
  pub last : (answered 26298719 16 ≡ 0) × (left 26298719 16 ≡ ascii "2049-12-31 23:59")
  pub later : (answered 26298720 16 ≡ 22) × (left 26298720 16 ≡ lent 16)
  pub later_first : (answered 26298720 15 ≡ 22) × (left 26298720 15 ≡ lent 15)
