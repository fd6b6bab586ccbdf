-- The position of a minute that was counted from a position is this one, where the minute has 32 bits. Assumes nothing.
use Prim.Native.Nat.{ℕ, ◌+◌, ◌-◌, ◌*◌, ◌/◌, ◌%◌, ◌≤◌, ◌<◌}
use mathlib.Core.Path.{◌≡◌, refl, ap, ◌∙◌}
use mathlib.Core.Bool.{Bool, true, false, ◌&&◌, ◌||◌}
use mathlib.Core.Logic.{⊎_elim}
use native.Mathlib.Omega.{arith}
use native.Mathlib.Nat.{mod-eq_of_lt}
use Rattle.std.proofs.Math.Nat.{div-zero, zero-div, mul-div_cancel, div-mul-le_self}
use lib.Dec.{leb, ltb, eqb}
use borrow.Author.Tests.{eqb-true, eq-eqb, ltb-true, lt-ltb, leb-true, le-leb}
use Rattle.fields.proofs.Bools.{and_left, and_right, and_both, both_ways, or_cases, lt-or-le}

or-true : (a : Bool) → (a || true) ≡ true
or-true true = refl
or-true false = refl

module _ (start step n : ℕ) (small : start < 4294967296) where
  abbrev moved : ℕ
  moved = (n - 1) * step

  abbrev counted : ℕ
  counted = ((start + moved) % 4294967296 - start) / step + 1

  abbrev low : Bool
  low = leb 1 n

  abbrev steps : Bool
  steps = leb 1 step || eqb n 1

  abbrev early : Bool
  early = ltb (start + moved) 4294967296

  onto : (low && steps && early) ≡ true → counted ≡ n
  onto e =
      let some = leb-true 1 n (and_left low steps (and_left (low && steps) early e)) in
      let here = mod-eq_of_lt (ltb-true (start + moved) 4294967296 (and_right (low && steps) early e)) in
      let back : start + moved - start ≡ moved = omega arith in
      rw (here, back)
      (⊎_elim
      (λ one. let whole : moved / step ≡ n - 1 = mul-div_cancel (n - 1) (leb-true 1 step one) in omega (arith, whole, some))
      (λ first.
      let z : n ≡ 1 = eqb-true n 1 first in
      let none : moved ≡ 0 = rw z (omega arith) in
      rw none (rw (zero-div step, z) refl))
      (or_cases (leb 1 step) (eqb n 1) (and_right low steps (and_left (low && steps) early e))))

  later : 2 ≤ n → 1 ≤ step → counted ≡ n → start + moved < 4294967296
  later more some e =
      let there = (start + moved) % 4294967296 in
      let m = n - 2 in
      let split : moved ≡ m * step + step = ap (λ (i : ℕ). i * step) (let i : n - 1 ≡ m + 1 = omega arith in i) ∙ omega arith in
      let one : (there - start) / step ≡ n - 1 = omega arith in
      let least : moved ≤ there - start = rw one at (div-mul-le_self (there - start) step) in
      omega (arith, least, split, some)

  one-place : counted ≡ n → n < 2 → (low && steps && early) ≡ true
  one-place e few =
      let z : n ≡ 1 = omega arith in
      let none : moved ≡ 0 = rw z (omega arith) in
      and_both (and_both (le-leb 1 n (omega arith)) (rw (eq-eqb n 1 z) (or-true (leb 1 step)))) (lt-ltb (start + moved) 4294967296 (omega arith))

  more-places : counted ≡ n → 2 ≤ n → (low && steps && early) ≡ true
  more-places e more =
      ⊎_elim
      (λ (none : step < 1).
      let z : step ≡ 0 = omega arith in
      let one : counted ≡ 1 = ap (λ (i : ℕ). i + 1) (ap (λ (i : ℕ). ((start + moved) % 4294967296 - start) / i) z ∙ div-zero ((start + moved) % 4294967296 - start)) in
      absurd (omega (arith, one, e, more)))
      (λ (some : 1 ≤ step).
      and_both (and_both (le-leb 1 n (omega arith)) (rw (le-leb 1 step some))) (lt-ltb (start + moved) 4294967296 (later more some e)))
      (lt-or-le step 1)

  pub position_told : (low && steps && early) ≡ eqb counted n
  position_told =
      both_ways (low && steps && early) (eqb counted n) (λ e. eq-eqb counted n (onto e))
      (λ e.
      let same = eqb-true counted n e in
      ⊎_elim (one-place same) (more-places same) (lt-or-le n 2))
