-- The digits of a number, laid from the back. Assumes nothing.
use Prim.Native.Nat.{ℕ, zero, suc, ◌+◌, ◌*◌, ◌-◌, ◌/◌, ◌^◌, ◌≤◌, ◌<◌}
use mathlib.Core.Path.{◌≡◌, ◌∙◌}
use mathlib.Core.List.{List, ◌∷◌}
use native.Mathlib.Nat.{pow-suc}
use native.Mathlib.Numerals.{add-one, sub-one}
use native.Mathlib.Omega.{arith}
use lib.ListN.{length, set, drop, length-set, drop_of_length-le}
use borrow.Author.Tests.{lt-ltb, le-ltb}
use Rattle.std.proofs.lemmas.List.{drop-set}
use Rattle.fields.specs.Lists.{pick}
use Rattle.calendar.specs.Calendar.{digit}
use Rattle.texts.specs.Numerals.{decimal_before, decimal}

-- the digits of n stand from `at` on, but for those of `rest`, which come before them and fit there
pub record Laid (n rest at : ℕ) (digits : List ℕ) : Type 0 where
  pub long : length digits ≡ 20
  pub some : 1 ≤ at
  pub upper_bound : at ≤ 20
  pub fits : rest < 10 ^ at
  pub so_far : decimal_before at rest (drop at digits) ≡ decimal n

pub laid_none : (n : ℕ) (digits : List ℕ) → length digits ≡ 20 → n < 18446744073709551616 → Laid n n 20 digits
laid_none n digits long l = record {
  long = long;
  some = omega arith;
  upper_bound = omega arith;
  fits = omega arith;
  so_far = rw (drop_of_length-le digits {i = 20} (omega arith));
}

-- a number of two digits or more leaves another place
places : (rest at : ℕ) → rest < 10 ^ suc at → 10 ≤ rest → 1 ≤ at
places rest zero f l = absurd (omega (arith, f))
places rest (suc at) f l = omega arith

module _ {n rest : ℕ} {digits : List ℕ} where
  -- one digit more
  pub laid_more : (at : ℕ) {v : ℕ} → Laid n rest at digits → 10 ≤ rest → v ≡ digit rest → Laid n (rest / 10) (at - 1) (set digits (at - 1) v)
  unfolding decimal_before pick
  laid_more zero p l e = absurd (omega (arith, p.some))
  laid_more (suc at) {v} p l e =
      let fits : rest < 10 ^ at * 10 = rw pow-suc at p.fits in
      let there = drop-set digits at v (omega (arith, p.long, p.upper_bound)) in
      let turn : decimal_before at (rest / 10) (digit rest ∷ drop (at + 1) digits) ≡ decimal n = rw (le-ltb rest 10 l, ← add-one at) at p.so_far in
      rw sub-one record {
        long = length-set digits at v ∙ p.long;
        upper_bound = omega (arith, p.upper_bound);
        some = places rest at p.fits l;
        fits = omega (arith, fits);
        so_far = rw (there, e) turn;
      }

  -- and the last one
  pub laid_all : (at : ℕ) {v : ℕ} → Laid n rest at digits → rest < 10 → v ≡ digit rest → drop (at - 1) (set digits (at - 1) v) ≡ decimal n
  unfolding decimal_before pick
  laid_all zero p l e = absurd (omega (arith, p.some))
  laid_all (suc at) {v} p l e =
      let there = drop-set digits at v (omega (arith, p.long, p.upper_bound)) in
      let turn : digit rest ∷ drop (at + 1) digits ≡ decimal n = rw (lt-ltb rest 10 l, ← add-one at) at p.so_far in
      rw (sub-one, there, e) turn
