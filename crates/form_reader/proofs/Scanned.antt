-- A number's digits as a loop reads them. Assumes nothing.
use Rattle.std.proofs.Common.{◌≡◌, ℕ, suc, ◌+◌, ◌-◌, ◌*◌, ◌≤◌, ◌<◌, Bool, true, false, List, sym, ◌∙◌, arith, add-zero, add-one}
use native.Mathlib.Nat.{pow-suc}
use Prim.Native.Nat.{◌^◌}
use Rattle.fields.specs.Fields.{u8_at}
use Rattle.fields.specs.Lists.{pick}
use Rattle.fields.proofs.Bools.{range-true}
use Rattle.form_reading.specs.Reading.{is_digit, digits_at, number_at}

-- What a loop over the ten places keeps: j digits have given n.
pub record Scanned (s : List ℕ) (at n j : ℕ) : Type 0 where
  pub most : j ≤ 10
  pub below : n < 10 ^ j
  pub so_far : number_at s at ≡ digits_at (10 - j) s (at + j) n

pub scanned_none : (s : List ℕ) (at : ℕ) → Scanned s at 0 0
unfolding number_at
scanned_none s at = record { most = omega arith; below = omega arith; so_far = rw add-zero }

module _ {s : List ℕ} {at n j c : ℕ} {r : Bool} (p : Scanned s at n j) (more : j < 10) (here : c ≡ u8_at s (at + j)) (asked : r ≡ is_digit c) where
  next : 10 - j ≡ suc (10 - (j + 1))
  next = omega arith

  pub scanned_more : r ≡ true → Scanned s at (10 * n + (c - 48)) (j + 1)
  unfolding digits_at pick
  scanned_more e =
      let k : at + j + 1 ≡ at + (j + 1) = omega arith in
      let range = range-true 48 57 c (sym asked ∙ e) in
      let d : is_digit (u8_at s (at + j)) ≡ true = rw (← here) (sym asked ∙ e) in
      record {
        most = omega arith;
        below = rw (add-one, pow-suc) (omega (arith, p.below));
        so_far = p.so_far ∙ rw (next, d, k, here);
      }

  pub scanned_all : r ≡ false → record { value = n; next = at + j } ≡ number_at s at
  unfolding digits_at pick
  scanned_all e =
      let d : is_digit (u8_at s (at + j)) ≡ false = rw (← here) (sym asked ∙ e) in
      sym (p.so_far ∙ rw (next, d))

pub scanned_most : {s : List ℕ} {at n j : ℕ} → Scanned s at n j → j ≡ 10 → record { value = n; next = at + 10 } ≡ number_at s at
unfolding digits_at
scanned_most p e = sym (p.so_far ∙ rw e)
