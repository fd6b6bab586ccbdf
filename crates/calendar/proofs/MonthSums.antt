-- The division that code comes near a day's month by, and the sums by which it reads a month, are right for all 600: tests that
-- antt computes. Assumes nothing.
use Prim.Native.Nat.{ℕ, zero, suc, ◌+◌, ◌-◌, ◌*◌, ◌/◌, ◌%◌, ◌≤◌, ◌<◌}
use mathlib.Core.Path.{◌≡◌, refl, sym}
use mathlib.Core.Bool.{true, ◌&&◌}
use mathlib.Core.Logic.{⊎_elim}
use native.Mathlib.Omega.{arith}
use native.Mathlib.Numerals.{sub-one}
use lib.Dec.{leb, eqb}
use borrow.Author.Tests.{eqb-true}
use Rattle.fields.specs.Lists.{pick}
use Rattle.fields.proofs.Bools.{and_left, and_right, lt-or-le}
use Rattle.calendar.specs.Calendar.{days_in, month_length, month_start, month_of}
use Rattle.calendar.proofs.Months.{near, passes, passes_at, last-only}

-- on the first day of a month the division gives the month
near_first : (k : ℕ) → k < 600 → near (month_start k) ≡ k
unfolding passes days_in pick
near_first k l = eqb-true (near (month_start k)) k (passes_at (λ k start. eqb (near start) k) k refl l)

-- the month n that the division gives, which begins on s, is the day's where it has begun
pub month-here : {day n s : ℕ} → n ≡ near day → s ≡ month_start n → s ≤ day → n ≡ month_of day
month-here {day} {n} e b l =
    last-only
    (record {
      few = omega arith;
      begun = omega arith;
      last = λ k.
          ⊎_elim
          (λ h. h)
          (λ h. absurd (omega (arith, near_first (suc n) (omega arith))))
          (lt-or-le day (month_start (suc n)));
    })

-- and else there is one before, which is
pub month-before : {day n s : ℕ} → n ≡ near day → s ≡ month_start n → day < s → n - 1 ≡ month_of day
unfolding month_start
month-before {n = zero} e b l = omega arith
month-before {day = day} {n = suc n} e b l =
    rw sub-one
    (last-only
    (record {
      few = omega arith;
      begun =
          ⊎_elim
          (λ h. absurd (omega (arith, near_first n (omega arith))))
          (λ h. h)
          (lt-or-le day (month_start n));
      last = λ k. omega arith;
    }))

-- the sum that a month's first day is, from the years before it, and all 600 of them
abbrev pub quarters_before_march : ℕ → ℕ
quarters_before_march m = pick (leb m 1) 7 0

abbrev pub first_day_by : ℕ → ℕ → ℕ
first_day_by y m = (1461 * y + 4 * ((489 * m + 8) / 16) + quarters_before_march m - 4) / 4

-- In the fifty years every fourth is a leap year, and from August on the even months have 31 days.
abbrev pub length_by : ℕ → ℕ → ℕ
length_by y m = pick (eqb m 2) (pick (eqb (y % 4) 0) 29 28) (30 + (m + m / 8) % 2)

by-arithmetic : (k : ℕ) → k < 600
    → (eqb (first_day_by (k / 12) (k % 12)) (month_start k) && eqb (length_by (2000 + k / 12) (k % 12 + 1)) (month_length k)) ≡ true
unfolding passes days_in pick
by-arithmetic k l =
    passes_at
    (λ k start. eqb (first_day_by (k / 12) (k % 12)) start && eqb (length_by (2000 + k / 12) (k % 12 + 1)) (month_length k))
    k refl l

module _ (y m : ℕ) (years : y ≤ 49) (months : m ≤ 11) where
  arithmetic-at : (eqb (first_day_by y m) (month_start (y * 12 + m)) && eqb (length_by (2000 + y) (m + 1)) (days_in (2000 + y) (m + 1))) ≡ true
  arithmetic-at =
      let p : (y * 12 + m) / 12 ≡ y = omega arith in
      let q : (y * 12 + m) % 12 ≡ m = omega arith in
      let t = by-arithmetic (y * 12 + m) (omega arith) in
      rw (p, q) at t

  pub first_by : first_day_by y m ≡ month_start (y * 12 + m)
  first_by =
      eqb-true (first_day_by y m) (month_start (y * 12 + m))
      (and_left _ (eqb (length_by (2000 + y) (m + 1)) (days_in (2000 + y) (m + 1))) arithmetic-at)

  pub length-by : length_by (2000 + y) (m + 1) ≡ days_in (2000 + y) (m + 1)
  length-by =
      eqb-true (length_by (2000 + y) (m + 1)) (days_in (2000 + y) (m + 1))
      (and_right (eqb (first_day_by y m) (month_start (y * 12 + m))) _ arithmetic-at)

pub days_by : (y m : ℕ) → 2000 ≤ y → y ≤ 2049 → 1 ≤ m → m ≤ 12 → days_in y m ≡ length_by y m
days_by y m low high first last =
    let year : 2000 + (y - 2000) ≡ y = omega arith in
    let month : m - 1 + 1 ≡ m = omega arith in
    let same = length-by (y - 2000) (m - 1) (omega arith) (omega arith) in
    sym (rw (year, month) at same)
