-- The line of a number is told by its name, its digits and what stops them. Assumes nothing.
use Prim.Native.Nat.{ℕ, ◌+◌, ◌-◌, ◌%◌, ◌≤◌, ◌<◌}
use mathlib.Core.Path.{◌≡◌, refl, ap, sym, ◌∙◌}
use mathlib.Core.Bool.{Bool, true, ◌&&◌}
use mathlib.Core.List.{List, [], ◌∷◌, ◌++◌, append_assoc}
use native.Mathlib.Omega.{arith}
use native.Mathlib.Nat.{mod-lt, mod-eq_of_lt}
use lib.Dec.{eqb, ltb}
use lib.ListN.{length, drop, length-append}
use borrow.Author.Tests.{eqb-true, eq-eqb, ltb-true, lt-ltb}
use Rattle.fields.specs.Fields.{u8_at}
use Rattle.fields.specs.Lists.{series}
use Rattle.fields.proofs.Bools.{and_left, and_right, and_both, both_ways, range-true}
use Rattle.fields.proofs.Tests.{series-at}
use Rattle.texts.specs.Numerals.{decimal}
use Rattle.texts.proofs.Texts.{decimal-one}
use Rattle.forms.specs.Values.{line}
use Rattle.form_reading.specs.declared.Numeral.{Numeral}
use Rattle.form_reading.specs.Reading.{is_digit, number_at, number_past, number_in}
use Rattle.form_reader.specs.Spelled.{stands, is_plain, Told}
use Rattle.form_reading.proofs.Values.{number-back}
use Rattle.form_reader.proofs.Standing.{byte_there, stands-there, there-stands, name_told, told_then, stands_fetched}
use Rattle.form_reader.proofs.PlainDigits.{one_digit, plain-there, there-plain, there-stops}

module _ (s : List ℕ) (at limit : ℕ) (some : 1 ≤ limit) (most : limit ≤ 65536) where
  abbrev n : Numeral
  n = number_at s at

  abbrev written : List ℕ
  written = decimal (n.value % limit) ++ (10 ∷ [])

  abbrev tests : Bool
  tests = is_plain (u8_at s at) (eqb n.next (at + 1)) && ltb n.value limit && eqb (u8_at s n.next) 10

  -- the tests one by one
  record Tests : Type 0 where
    plain : is_plain (u8_at s at) (eqb n.next (at + 1)) ≡ true
    below : n.value < limit
    stops : u8_at s n.next ≡ 10

  each-test : tests ≡ true → Tests
  each-test e =
      let a = is_plain (u8_at s at) (eqb n.next (at + 1)) in
      let b = ltb n.value limit in
      let c = eqb (u8_at s n.next) 10 in
      let ab = and_left (a && b) c e in
      record {
        plain = and_left a b ab;
        below = ltb-true n.value limit (and_right a b ab);
        stops = eqb-true (u8_at s n.next) 10 (and_right (a && b) c e);
      }

  value-there : Tests → drop at s ≡ decimal n.value ++ (10 ∷ drop (n.next + 1) s)
  value-there t = plain-there s at t.plain ∙ ap (λ (l : List ℕ). decimal n.value ++ l) (byte_there s n.next 10 t.stops (omega arith))

  same-value : Tests → n.value % limit ≡ n.value
  same-value t = mod-eq_of_lt t.below

  spelled : Tests → stands written s at ≡ true
  spelled t =
      let rest = drop (n.next + 1) s in
      rw (same-value t)
      (there-stands (decimal n.value ++ (10 ∷ [])) s rest at (value-there t ∙ sym (append_assoc (decimal n.value) (10 ∷ []) rest)))

  past-it : Tests → n.next + 1 ≡ at + length written
  past-it t =
      let read = number-back s at n.value 10 (drop (n.next + 1) s) (value-there t) refl (omega (arith, t.below, most)) in
      let next : n.next ≡ at + length (decimal n.value) = ap (λ (m : Numeral). m.next) read in
      rw (same-value t, length-append (decimal n.value) (10 ∷ []), next) (omega arith)

  told : stands written s at ≡ true → tests ≡ true
  told e =
      let w = n.value % limit in
      let below : w < limit = mod-lt n.value some in
      let rest = drop (at + length written) s in
      let there = stands-there written s at e ∙ append_assoc (decimal w) (10 ∷ []) rest in
      let small : w < 10000000000 = omega (arith, below, most) in
      let read = number-back s at w 10 rest there refl small in
      let value : n.value ≡ w = ap (λ (m : Numeral). m.value) read in
      and_both
      (and_both (there-plain s at w 10 rest there refl small) (lt-ltb n.value limit (rw value below)))
      (eq-eqb (u8_at s n.next) 10 (there-stops s at w 10 rest there refl small))

  tests-told : Told written s at tests (n.next + 1)
  tests-told =
      record { told = both_ways tests (stands written s at) (λ e. spelled (each-test e)) told; after = λ e. past-it (each-test e) }

pub digits_told : {p : Bool} {m : Numeral} {c d : ℕ} (s : List ℕ) (at limit : ℕ) → 1 ≤ limit → limit ≤ 65536
    → m ≡ number_at s at → c ≡ u8_at s at → p ≡ is_plain c (eqb m.next (at + 1)) → d ≡ u8_at s m.next
    → Told (decimal (m.value % limit) ++ (10 ∷ [])) s at (p && ltb m.value limit && eqb d 10) (m.next + 1)
digits_told s at limit some most read here plain stop = rw (stop, plain, here, read) (tests-told s at limit some most)

-- a number of one digit
record OneDigit (s : List ℕ) (at limit n : ℕ) : Type 0 where
  read : record { value = n; next = at + 2 } ≡ number_past s at
  told : Told (decimal (n % limit) ++ (10 ∷ [])) s at true (at + 2)

one_there : (s : List ℕ) (at limit c : ℕ) → 10 ≤ limit → c ≡ u8_at s at → is_digit c ≡ true → u8_at s (at + 1) ≡ 10
    → OneDigit s at limit (c - 48)
one_there s at limit c some here d feed =
    let range = range-true 48 57 c d in
    let low : c - 48 < 10 = omega (arith, range) in
    let same : (c - 48) % limit ≡ c - 48 = mod-eq_of_lt (omega (arith, low, some)) in
    let digit : 48 + (c - 48) % 10 ≡ c = omega (arith, range) in
    let there : drop at s ≡ c ∷ 10 ∷ drop (at + 1 + 1) s =
    byte_there s at c (sym here) (omega (arith, range)) ∙ ap (λ (x : List ℕ). c ∷ x) (byte_there s (at + 1) 10 feed (omega arith)) in
    record {
      read = rw (one_digit s at c 10 (sym here) d feed refl) (ap (λ (m : ℕ). record { value = c - 48; next = m }) (omega arith));
      told = rw (same, decimal-one (c - 48) low, digit)
          record { told = sym (there-stands (c ∷ 10 ∷ []) s (drop (at + 1 + 1) s) at there); after = λ t. refl };
    }

-- a line is told by its name and what comes after that
pub named_told : {a b : Bool} {next : ℕ} (name value s : List ℕ) (at : ℕ) → a ≡ stands name s at
    → Told (value ++ (10 ∷ [])) s (at + length name) b next → Told (line name value) s at (a && b) next
unfolding line
named_told name value s at a q = told_then (name_told a) q

-- and its line, among sixteen bytes that were fetched
pub record OneDigitLine (name s : List ℕ) (at limit n v : ℕ) : Type 0 where
  pub read : record { value = v; next = at + n + 2 } ≡ number_in n s at
  pub told : Told (line name (decimal (v % limit))) s at true (at + n + 2)

pub line_of_digit : {v : ℕ} (name s bytes : List ℕ) (at limit n : ℕ) → length name ≡ n → n ≤ 14 → 10 ≤ limit
    → bytes ≡ series (u8_at s) at 16 → 16 ≤ length s - at
    → (stands name bytes 0 && is_digit (u8_at bytes n) && eqb (u8_at bytes (n + 1)) 10) ≡ true → v ≡ u8_at bytes n - 48
    → OneDigitLine name s at limit n v
line_of_digit name s bytes at limit n long most some fetched room tests value =
    let a = stands name bytes 0 in
    let b = is_digit (u8_at bytes n) in
    let c = eqb (u8_at bytes (n + 1)) 10 in
    let ab = and_left (a && b) c tests in
    let digit : u8_at bytes n ≡ u8_at s (at + n) = rw fetched (series-at (u8_at s) at 16 n 0 (omega arith)) in
    let next : at + (n + 1) ≡ at + n + 1 = omega arith in
    let feed : u8_at bytes (n + 1) ≡ u8_at s (at + n + 1) = rw (fetched, ← next) (series-at (u8_at s) at 16 (n + 1) 0 (omega arith)) in
    let one = one_there s (at + n) limit (u8_at bytes n) some digit (and_right a b ab)
    (sym feed ∙ eqb-true (u8_at bytes (n + 1)) 10 (and_right (a && b) c tests)) in
    let named = stands_fetched name s bytes at 16 fetched room (omega (arith, long)) in
    let known : true ≡ stands name s at = sym (and_left a b ab) ∙ named in
    let value-text = decimal ((u8_at bytes n - 48) % limit) in
    let placed : Told (value-text ++ (10 ∷ [])) s (at + length name) true (at + n + 2) = rw long one.told in
    rw value record { read = one.read; told = named_told name value-text s at known placed }
