-- Hexadecimal digits that are spelled as bytes are. Assumes nothing.
use Prim.Native.Nat.{ℕ, zero, suc, ◌+◌, ◌-◌, ◌*◌, ◌/◌, ◌%◌, ◌≤◌, ◌<◌}
use mathlib.Core.Path.{◌≡◌, refl, ap, sym, ◌∙◌}
use mathlib.Core.Bool.{Bool, true, false, ◌&&◌, false≢true}
use mathlib.Core.List.{List, [], ◌∷◌, ◌++◌}
use mathlib.Core.Logic.{⊎_elim}
use native.Mathlib.Omega.{arith}
use native.Mathlib.Nat.{zero-add}
use lib.Dec.{leb}
use lib.ListN.{length, drop, length-append}
use borrow.Author.Tests.{lt-leb, le-leb, lt-ltb, le-ltb}
use Rattle.fields.specs.Fields.{u8_at}
use Rattle.fields.specs.Lists.{pick, series}
use Rattle.fields.proofs.Bools.{and_left, and_right, and_both, both_ways, or_cases, range-true, range-intro, lt-or-le}
use Rattle.fields.proofs.Slices.{series-snoc}
use Rattle.fields.proofs.Tests.{series-at, series-length}
use Rattle.texts.specs.Numerals.{hex_digit}
use Rattle.fields.specs.Ascii.{ascii}
use Rattle.forms.specs.Values.{line, hex_text}
use Rattle.form_reading.specs.Reading.{is_digit, hex_value, hex_byte}
use Rattle.form_reader.specs.Spelled.{stands, is_hex, Told}
use Rattle.form_reading.proofs.Values.{first, past, hex-length}
use Rattle.form_reader.proofs.Standing.{byte_there, stands-there, there-stands, told_then, told_fetched, chunk_missing}

-- a digit and its value
record Digit (c : ℕ) : Type 0 where
  back : hex_digit (hex_value c) ≡ c
  below : hex_value c < 16
  some : 1 ≤ c

digit-of : (c : ℕ) → is_hex c ≡ true → Digit c
unfolding hex_value pick
digit-of c t =
    ⊎_elim
    (λ d.
    let r = range-true 48 57 c d in
    let v : hex_value c ≡ c - 48 = rw (lt-leb 97 c (omega (arith, r))) in
    record { back = rw (v, lt-ltb (c - 48) 10 (omega (arith, r))) (omega (arith, r)); below = omega (arith, r, v); some = omega (arith, r) })
    (λ d.
    let r = range-true 97 102 c d in
    let v : hex_value c ≡ c - 87 = rw (le-leb 97 c r.0) in
    record { back = rw (v, le-ltb (c - 87) 10 (omega (arith, r))) (omega (arith, r)); below = omega (arith, r, v); some = omega (arith, r) })
    (or_cases (is_digit c) (leb 97 c && leb c 102) t)

digit-is : (n : ℕ) → n < 16 → is_hex (hex_digit n) ≡ true
unfolding pick
digit-is n l =
    ⊎_elim (λ a. rw (lt-ltb n 10 a, range-intro 48 57 (48 + n) (omega arith) (omega arith)))
    (λ b. rw (le-ltb n 10 b, le-leb 48 (87 + n) (omega arith), lt-leb (87 + n) 57 (omega arith), range-intro 97 102 (87 + n) (omega arith) (omega arith))) (lt-or-le n 10)

-- the two digits of a byte
module _ (s : List ℕ) (at : ℕ) where
  abbrev high : ℕ
  high = u8_at s at

  abbrev low : ℕ
  low = u8_at s (at + 1)

  abbrev byte : ℕ
  byte = (16 * hex_value high + hex_value low) % 256

  abbrev tests : Bool
  tests = is_hex high && is_hex low

  spelled : tests ≡ true → stands (hex_text (byte ∷ [])) s at ≡ true
  unfolding hex_text
  spelled t =
      let h = digit-of high (and_left (is_hex high) (is_hex low) t) in
      let l = digit-of low (and_right (is_hex high) (is_hex low) t) in
      let front : byte / 16 ≡ hex_value high = omega (arith, h.below, l.below) in
      let last : byte % 16 ≡ hex_value low = omega (arith, h.below, l.below) in
      let there : drop at s ≡ high ∷ low ∷ drop (at + 1 + 1) s =
      byte_there s at high refl h.some ∙ ap (λ (x : List ℕ). high ∷ x) (byte_there s (at + 1) low refl l.some) in
      there-stands (hex_digit (byte / 16) ∷ hex_digit (byte % 16) ∷ []) s (drop (at + 1 + 1) s) at
      (rw (front, last, h.back, l.back) there)

  told : stands (hex_text (byte ∷ [])) s at ≡ true → tests ≡ true
  unfolding hex_text
  told t =
      let rest = drop (at + 2) s in
      let there = stands-there (hex_digit (byte / 16) ∷ hex_digit (byte % 16) ∷ []) s at t in
      let h = first s at (hex_digit (byte / 16)) (hex_digit (byte % 16) ∷ rest) there in
      let l = first s (at + 1) (hex_digit (byte % 16)) rest (past s at (hex_digit (byte / 16) ∷ []) (hex_digit (byte % 16) ∷ rest) there) in
      and_both (ap is_hex h ∙ digit-is (byte / 16) (omega arith)) (ap is_hex l ∙ digit-is (byte % 16) (omega arith))

  pair-told : Told (hex_text (byte ∷ [])) s at tests (at + 2)
  unfolding hex_text
  pair-told = record { told = both_ways tests (stands (hex_text (byte ∷ [])) s at) spelled told; after = λ t. refl }

pub byte_told : {h l b : ℕ} {r : Bool} (s : List ℕ) (at : ℕ) → h ≡ u8_at s at → l ≡ u8_at s (at + 1)
    → b ≡ (16 * hex_value h + hex_value l) % 256 → r ≡ (is_hex h && is_hex l) → Told (hex_text (b ∷ [])) s at r (at + 2)
byte_told s at h l b r = rw (b, r, h, l) (pair-told s at)

-- bytes one after the other
hex-append : (x y : List ℕ) → hex_text (x ++ y) ≡ hex_text x ++ hex_text y
unfolding hex_text
hex-append [] y = refl
hex-append (b ∷ x) y = ap (λ (t : List ℕ). hex_digit (b / 16) ∷ hex_digit (b % 16) ∷ t) (hex-append x y)

-- what a loop over the bytes keeps: those before j are told
pub record BytesTold (s : List ℕ) (at j : ℕ) (so_far : Bool) : Type 0 where
  pub told : Told (hex_text (series (hex_byte s at) 0 j)) s at so_far (at + 2 * j)

pub bytes_none : (s : List ℕ) (at : ℕ) → BytesTold s at 0 true
unfolding hex_text series
bytes_none s at = record { told = record { told = sym (there-stands [] s (drop at s) at refl); after = λ t. omega arith } }

pub bytes_more : {s : List ℕ} {at j b : ℕ} {a r : Bool} → BytesTold s at j a → b ≡ hex_byte s at j
    → Told (hex_text (b ∷ [])) s (at + 2 * j) r (at + 2 * j + 2) → BytesTold s at (j + 1) (a && r)
bytes_more {s} {at} {j} {b} p e q =
    let f = hex_byte s at in
    let next : at + 2 * j + 2 ≡ at + 2 * (j + 1) = omega arith in
    let z : 0 + j ≡ j = zero-add j in
    let more : series f 0 (j + 1) ≡ series f 0 j ++ (b ∷ []) = series-snoc f 0 j ∙ rw (z, e) in
    record { told = rw (more, hex-append (series f 0 j) (b ∷ [])) (rw next at (told_then p.told q)) }

pub bytes_all : {s : List ℕ} {at j : ℕ} {a : Bool} → BytesTold s at j a → j ≡ 16 → Told (hex_text (series (hex_byte s at) 0 16)) s at a (at + 32)
bytes_all p e = rw e at p.told

-- digits that were fetched are those that stand there
module _ (s : List ℕ) (at n k place : ℕ) {d : List ℕ} (fetched : d ≡ series (u8_at s) at n) (same : at + k ≡ place) where
  digit-there : (j : ℕ) → k + j < n → u8_at d (k + j) ≡ u8_at s (place + j)
  digit-there j l =
      let there : at + (k + j) ≡ place + j = omega (arith, same) in
      rw (fetched, ← there) (series-at (u8_at s) at n (k + j) 0 l)

  pub bytes_fetched : (i m : ℕ) → k + 2 * (i + m) ≤ n → series (hex_byte d k) i m ≡ series (hex_byte s place) i m
  unfolding series
  bytes_fetched i zero most = refl
  bytes_fetched i (suc m) most =
      let high : u8_at d (k + 2 * i) ≡ u8_at s (place + 2 * i) = digit-there (2 * i) (omega arith) in
      let low : u8_at d (k + 2 * i + 1) ≡ u8_at s (place + 2 * i + 1) =
      ap (u8_at d) (omega arith) ∙ digit-there (2 * i + 1) (omega arith) ∙ ap (u8_at s) (omega arith) in
      rw (high, low, bytes_fetched (i + 1) m (omega arith)) refl

pub identifier_length : (s : List ℕ) (at : ℕ) → length (line (ascii "identifier=") (hex_text (series (hex_byte s at) 0 16))) ≡ 44
unfolding line
identifier_length s at =
    let bytes = series (hex_byte s at) 0 16 in
    let long : length (hex_text bytes) ≡ 32 = hex-length bytes ∙ rw (series-length (hex_byte s at) 0 16) refl in
    omega (arith, length-append (hex_text bytes) (10 ∷ []), long)

pub fetched_told : {d s bytes : List ℕ} {at : ℕ} {b : Bool} → d ≡ series (u8_at s) at 32 → 32 ≤ length s - at
    → bytes ≡ series (hex_byte d 0) 0 16 → Told (hex_text bytes) d 0 b 32 → Told (hex_text bytes) s at b (at + 32)
fetched_told {d} {s} {bytes} {at} fetched room read told =
    told_fetched (hex_text bytes) s d at 32 fetched room (hex-length bytes ∙ rw (read, series-length (hex_byte d 0) 0 16) refl) told.told

pub cut_told : {s bytes : List ℕ} {at : ℕ} → (32 ≤ length s - at → ⊥) → bytes ≡ series (hex_byte s at) 0 16
    → Told (hex_text bytes) s at false (at + 32)
cut_told {s} {bytes} {at} out read =
    let long : length (hex_text bytes) ≡ 32 = hex-length bytes ∙ rw (read, series-length (hex_byte s at) 0 16) refl in
    record { told = chunk_missing (hex_text bytes) s at 32 long out; after = λ t. absurd (false≢true t) }
