-- A number and the byte behind it are told by the digits, their value and that byte. Assumes nothing.
use Prim.Native.Nat.{ℕ, ◌+◌, ◌≤◌, ◌<◌}
use mathlib.Core.Path.{◌≡◌, ap, sym, ◌∙◌}
use mathlib.Core.Bool.{Bool, true, false, ◌&&◌}
use mathlib.Core.List.{List, [], ◌∷◌, ◌++◌, append_assoc}
use native.Mathlib.Omega.{arith}
use lib.Dec.{eqb}
use lib.ListN.{length, drop, length-append}
use borrow.Author.Tests.{eqb-true, eq-eqb}
use Rattle.fields.specs.Fields.{u8_at}
use Rattle.fields.proofs.Bools.{and_left, and_right, and_both, both_ways}
use Rattle.texts.specs.Numerals.{decimal}
use Rattle.form_reading.specs.declared.Numeral.{Numeral}
use Rattle.form_reading.specs.Reading.{is_digit, number_at}
use Rattle.form_reader.specs.Spelled.{stands, is_plain, Told}
use Rattle.form_reading.proofs.Values.{number-back}
use Rattle.form_reader.proofs.Standing.{byte_there, stands-there, there-stands}
use Rattle.form_reader.proofs.PlainDigits.{plain-there, there-plain, there-stops}

-- a number q, as it is written, and a byte c behind it
module _ (s : List ℕ) (at q c : ℕ) (stop : is_digit c ≡ false) (there : 1 ≤ c) (small : q < 10000000000) where
  abbrev n : Numeral
  n = number_at s at

  abbrev plain : Bool
  plain = is_plain (u8_at s at) (eqb n.next (at + 1))

  abbrev same : Bool
  same = eqb q n.value

  abbrev stops : Bool
  stops = eqb (u8_at s n.next) c

  abbrev written : List ℕ
  written = decimal q ++ (c ∷ [])

  value-there : (plain && same && stops) ≡ true → drop at s ≡ decimal q ++ (c ∷ drop (n.next + 1) s)
  value-there e =
      let value = eqb-true q n.value (and_right plain same (and_left (plain && same) stops e)) in
      let byte = byte_there s n.next c (eqb-true (u8_at s n.next) c (and_right (plain && same) stops e)) there in
      rw value (plain-there s at (and_left plain same (and_left (plain && same) stops e)) ∙ ap (λ (l : List ℕ). decimal n.value ++ l) byte)

  spelled : (plain && same && stops) ≡ true → stands written s at ≡ true
  spelled e =
      let rest = drop (n.next + 1) s in
      there-stands written s rest at (value-there e ∙ sym (append_assoc (decimal q) (c ∷ []) rest))

  next-place : (plain && same && stops) ≡ true → n.next + 1 ≡ at + length written
  next-place e =
      let read = number-back s at q c (drop (n.next + 1) s) (value-there e) stop small in
      let next : n.next ≡ at + length (decimal q) = ap (λ (m : Numeral). m.next) read in
      rw (length-append (decimal q) (c ∷ []), next) (omega arith)

  told : stands written s at ≡ true → (plain && same && stops) ≡ true
  told e =
      let rest = drop (at + length written) s in
      let found = stands-there written s at e ∙ append_assoc (decimal q) (c ∷ []) rest in
      let read = number-back s at q c rest found stop small in
      let value : n.value ≡ q = ap (λ (m : Numeral). m.value) read in
      and_both
      (and_both (there-plain s at q c rest found stop small) (eq-eqb q n.value (sym value)))
      (eq-eqb (u8_at s n.next) c (there-stops s at q c rest found stop small))

  pub digits_told : Told written s at (plain && same && stops) (n.next + 1)
  digits_told = record { told = both_ways (plain && same && stops) (stands written s at) spelled told; after = next-place }
