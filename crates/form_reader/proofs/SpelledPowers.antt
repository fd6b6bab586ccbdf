-- A power and the line feed behind it are told by a hyphen, digits and their value. Assumes nothing.
use Prim.Native.Nat.{ℕ, suc, ◌+◌, ◌-◌, ◌%◌, ◌≤◌, ◌<◌}
use mathlib.Core.Path.{◌≡◌, refl, ap, sym, ◌∙◌}
use mathlib.Core.Bool.{Bool, true, false, ◌&&◌, false≢true}
use mathlib.Core.List.{List, [], ◌∷◌, ◌++◌, append_assoc}
use mathlib.Core.Logic.{⊎_elim}
use native.Mathlib.Omega.{arith}
use lib.Dec.{leb, ltb, eqb}
use lib.IntN.{negsuc}
use lib.ListN.{length, drop}
use mir.Syntax.{w32}
use mir.Val.{to_z}
use mir.ValLaws.{to_z_pos, to_z-neg}
use borrow.Author.Tests.{eqb-true, eq-eqb, ltb-true, lt-ltb, leb-true, le-leb}
use Rattle.fields.specs.Fields.{u8_at}
use Rattle.fields.specs.Lists.{pick}
use Rattle.fields.proofs.Bools.{and_left, and_right, and_both, both_ways, lt-or-le}
use Rattle.texts.specs.Numerals.{decimal}
use Rattle.forms.specs.Values.{signed_decimal}
use Rattle.form_reading.specs.declared.Numeral.{Numeral}
use Rattle.form_reading.specs.Reading.{number_at}
use Rattle.form_reader.specs.Spelled.{stands, is_plain, Told}
use Rattle.form_reading.proofs.Values.{first, no-hyphen}
use Rattle.form_reader.proofs.Standing.{byte_there, stands-there, there-stands, told_then}
use Rattle.form_reader.proofs.SpelledDigits.{digits_told}

-- what neither is told nor stands there
pub told_never : {x s : List ℕ} {at next : ℕ} {t : Bool} → (t ≡ true → ⊥) → (stands x s at ≡ true → ⊥) → Told x s at t next
told_never {x} {s} {at} {t = t} a b = record {
  told = both_ways t (stands x s at) (λ e. absurd (a e)) (λ e. absurd (b e));
  after = λ e. absurd (a e);
}

-- the same text and the same test
pub told_as : {x y s : List ℕ} {at next : ℕ} {t u : Bool} → x ≡ y → t ≡ u → Told x s at t next → Told y s at u next
told_as e q p = rw (← e, ← q) p

byte-told : (s : List ℕ) (at c : ℕ) → 1 ≤ c → Told (c ∷ []) s at (eqb (u8_at s at) c) (at + 1)
byte-told s at c l = record {
  told = both_ways (eqb (u8_at s at) c) (stands (c ∷ []) s at)
      (λ e. there-stands (c ∷ []) s (drop (at + 1) s) at (byte_there s at c (eqb-true (u8_at s at) c e) l))
      (λ e. eq-eqb (u8_at s at) c (first s at c (drop (at + 1) s) (stands-there (c ∷ []) s at e)));
  after = λ e. refl;
}

-- a power as it is written
plus-written : (v : ℕ) → v < 2147483648 → signed_decimal (to_z w32 v) ≡ decimal v
unfolding signed_decimal pick
plus-written v l = rw (to_z_pos w32 v l, le-leb 0 v (omega arith))

minus-written : (v : ℕ) → 2147483648 ≤ v → v < 4294967296 → signed_decimal (to_z w32 v) ≡ 45 ∷ decimal (4294967296 - v)
unfolding signed_decimal pick
minus-written v l h =
    let k : 4294967296 - suc (4294967295 - v) ≡ v = omega arith in
    let q : to_z w32 v ≡ negsuc (4294967295 - v) = ap (to_z w32) (sym k) ∙ to_z-neg w32 (4294967295 - v) (omega arith) in
    let n : suc (4294967295 - v) ≡ 4294967296 - v = omega arith in
    rw q (ap (λ (i : ℕ). 45 ∷ decimal i) n)

module _ (s : List ℕ) (at : ℕ) where
  -- without a hyphen
  module _ (digits : eqb (u8_at s at) 45 ≡ false) where
    abbrev n : Numeral
    n = number_at s at

    abbrev v : ℕ
    v = n.value % 4294967296

    abbrev plus : Bool
    plus = is_plain (u8_at s at) (eqb n.next (at + 1)) && ltb n.value 2147483648 && eqb (u8_at s n.next) 10

    plus-small : v < 2147483648 → eqb v n.value ≡ ltb n.value 2147483648
    plus-small l =
        both_ways (eqb v n.value) (ltb n.value 2147483648) (λ e. lt-ltb n.value 2147483648 (omega (arith, l, eqb-true v n.value e)))
        (λ e. eq-eqb v n.value (omega (arith, ltb-true n.value 2147483648 e)))

    plus-told : Told (signed_decimal (to_z w32 v) ++ (10 ∷ [])) s at plus (n.next + 1)
    plus-told =
        ⊎_elim
        (λ (low : v < 2147483648). rw (plus-written v low, ← plus-small low) (digits_told s at v 10 refl (omega arith) (omega arith)))
        (λ (high : 2147483648 ≤ v).
        told_never
        (λ e.
        let a = is_plain (u8_at s at) (eqb n.next (at + 1)) in
        let b = ltb n.value 2147483648 in
        omega (arith, ltb-true n.value 2147483648 (and_right a b (and_left (a && b) (eqb (u8_at s n.next) 10) e))))
        (λ e.
        let w = decimal (4294967296 - v) ++ (10 ∷ []) in
        let there : stands (45 ∷ w) s at ≡ true = rw (minus-written v high (omega arith)) at e in
        let here = first s at 45 _ (stands-there (45 ∷ w) s at there) in
        false≢true (sym digits ∙ eq-eqb (u8_at s at) 45 here)))
        (lt-or-le v 2147483648)

  -- with a hyphen
  module _ (hyphen : eqb (u8_at s at) 45 ≡ true) where
    abbrev m : Numeral
    m = number_at s (at + 1)

    abbrev u : ℕ
    u = (4294967296 - m.value) % 4294967296

    abbrev in_range : Bool
    in_range = leb 1 m.value && leb m.value 2147483648

    abbrev minus : Bool
    minus = is_plain (u8_at s (at + 1)) (eqb m.next (at + 1 + 1)) && in_range && eqb (u8_at s m.next) 10

    minus-range : in_range ≡ true → (1 ≤ m.value) × (m.value ≤ 2147483648)
    minus-range e = (
      leb-true 1 m.value (and_left (leb 1 m.value) (leb m.value 2147483648) e),
      leb-true m.value 2147483648 (and_right (leb 1 m.value) (leb m.value 2147483648) e),
    )

    minus-large : 2147483648 ≤ u → eqb (4294967296 - u) m.value ≡ in_range
    minus-large l =
        both_ways (eqb (4294967296 - u) m.value) in_range
        (λ e.
        let same = eqb-true (4294967296 - u) m.value e in
        and_both (le-leb 1 m.value (omega (arith, same))) (le-leb m.value 2147483648 (omega (arith, same, l))))
        (λ e. eq-eqb (4294967296 - u) m.value (omega (arith, minus-range e)))

    minus-told : Told (signed_decimal (to_z w32 u) ++ (10 ∷ [])) s at minus (m.next + 1)
    minus-told =
        ⊎_elim
        (λ (low : u < 2147483648).
        told_never
        (λ e.
        let a = is_plain (u8_at s (at + 1)) (eqb m.next (at + 1 + 1)) in
        omega (arith, low, minus-range (and_right a in_range (and_left (a && in_range) (eqb (u8_at s m.next) 10) e))))
        (λ e.
        let w = decimal u ++ (10 ∷ []) in
        let there : stands w s at ≡ true = rw (plus-written u low) at e in
        let rest = drop (at + length w) s in
        let none = no-hyphen s at u 10 rest (stands-there w s at there ∙ append_assoc (decimal u) (10 ∷ []) rest) refl (omega arith) in
        false≢true (sym none ∙ hyphen)))
        (λ (high : 2147483648 ≤ u).
        let q = 4294967296 - u in
        let both = told_then (byte-told s at 45 (omega arith)) (digits_told s (at + 1) q 10 refl (omega arith) (omega arith)) in
        rw (minus-written u high (omega arith), ← minus-large high) (told_as refl (ap (λ (t : Bool). t && (is_plain (u8_at s (at + 1)) (eqb m.next (at + 1 + 1)) && eqb q m.value && eqb (u8_at s m.next) 10)) hyphen) both))
        (lt-or-le u 2147483648)

-- the same, as code tells it
module _ {s : List ℕ} {at c d : ℕ} {p : Bool} {n : Numeral} (stop : d ≡ u8_at s n.next) where
  pub plus_told : eqb (u8_at s at) 45 ≡ false → n ≡ number_at s at → c ≡ u8_at s at → p ≡ is_plain c (eqb n.next (at + 1))
      → Told (signed_decimal (to_z w32 (n.value % 4294967296)) ++ (10 ∷ [])) s at (p && ltb n.value 2147483648 && eqb d 10) (n.next + 1)
  plus_told digits read here plain = rw (stop, plain, here, read) (plus-told s at digits)

  pub minus_told : {v : ℕ} → eqb (u8_at s at) 45 ≡ true → n ≡ number_at s (at + 1) → c ≡ u8_at s (at + 1)
      → p ≡ is_plain c (eqb n.next (at + 1 + 1)) → v ≡ (4294967296 - n.value) % 4294967296
      → Told (signed_decimal (to_z w32 v) ++ (10 ∷ [])) s at (p && (leb 1 n.value && leb n.value 2147483648) && eqb d 10) (n.next + 1)
  minus_told hyphen read here plain value = rw (stop, plain, here, value, read) (minus-told s at hyphen)
