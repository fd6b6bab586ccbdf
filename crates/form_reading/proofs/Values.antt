-- Each kind of value comes back from how it is written. Assumes nothing.
use Prim.Native.Nat.{ℕ, zero, suc, ◌+◌, ◌-◌, ◌*◌, ◌/◌, ◌%◌, ◌^◌, ◌≤◌, ◌<◌}
use mathlib.Core.Path.{◌≡◌, refl, ap, sym, ◌∙◌}
use mathlib.Core.Bool.{true, false}
use mathlib.Core.List.{List, [], ◌∷◌, ◌++◌, append_assoc}
use mathlib.Core.Logic.{⊎_elim}
use native.Mathlib.Omega.{arith}
use native.Mathlib.Nat.{add-zero, pow-suc, div-lt_iff_lt-mul}
use lib.Dec.{eqb, lit<}
use lib.IntN.{negsuc}
use lib.ListN.{length, get_or, take, drop, length-append}
use lib.Seq.{drop-drop, drop_at, take_at, get_or-drop}
use mir.Syntax.{w32}
use mir.Val.{to_z}
use mir.ValLaws.{to_z_pos, to_z-neg}
use borrow.Author.Tests.{le-leb, lt-leb, lt-ltb, le-ltb, ne_eqb}
use Rattle.fields.specs.Fields.{u8_at}
use Rattle.fields.specs.Lists.{pick, part, series}
use Rattle.fields.proofs.Bools.{range-intro, lt-or-le}
use Rattle.quantities.specs.declared.Minute.{Minute}
use Rattle.quantities.specs.Quantities.{last_minute}
use Rattle.calendar.specs.Calendar.{digit, date_of, date_text}
use Rattle.calendar.specs.Reading.{print_of, date_read}
use Rattle.calendar.specs.declared.Date.{Date}
use Rattle.calendar.proofs.Reading.{minute-back}
use Rattle.texts.specs.Texts.{last_place}
use Rattle.texts.specs.Numerals.{decimal, hex_digit}
use Rattle.texts.proofs.Texts.{decimal-one, decimal-more}
use Rattle.forms.specs.Values.{line, number_line, date_line, hex_text, signed_decimal}
use Rattle.form_reading.specs.declared.Numeral.{Numeral}
use Rattle.form_reading.specs.Reading.{is_digit, digits_at, number_at, number_in, power_at, hex_value, hex_byte, minute_or_0, date_at}
use Rattle.forms.specs.Form.{AreBytes}

-- what stands at a place: the first byte, and what comes after a text
pub first : (s : List ℕ) (at c : ℕ) (rest : List ℕ) → drop at s ≡ c ∷ rest → u8_at s at ≡ c
first s at c rest e =
    let z : at + 0 ≡ at = add-zero at in
    ap (λ (k : ℕ). get_or s k 0) (sym z) ∙ sym (get_or-drop at s 0 0) ∙ ap (λ (l : List ℕ). get_or l 0 0) e

pub past : (s : List ℕ) (at : ℕ) (x y : List ℕ) → drop at s ≡ x ++ y → drop (at + length x) s ≡ y
past s at x y e = sym (drop-drop (length x) at s) ∙ rw e (drop_at x y (length x) refl)

pub value_there : (s : List ℕ) (at : ℕ) (name value rest : List ℕ) → drop at s ≡ line name value ++ rest
    → drop (at + length name) s ≡ value ++ (10 ∷ rest)
unfolding line
value_there s at name value rest e =
    past s at name (value ++ (10 ∷ rest))
    (e ∙ append_assoc name (value ++ (10 ∷ [])) rest ∙ ap (λ (l : List ℕ). name ++ l) (append_assoc value (10 ∷ []) rest))

pub line_past : (s : List ℕ) (at : ℕ) (name value rest : List ℕ) → drop at s ≡ line name value ++ rest
    → drop (at + length name + length value + 1) s ≡ rest
line_past s at name value rest e =
    past s (at + length name + length value) (10 ∷ []) rest
    (past s (at + length name) value (10 ∷ rest) (value_there s at name value rest e))

-- decimal digits
pub digit-step : (k : ℕ) (s : List ℕ) (at m d : ℕ) → u8_at s at ≡ 48 + d → d < 10
    → digits_at (suc k) s at m ≡ digits_at k s (at + 1) (10 * m + d)
unfolding digits_at pick
digit-step k s at m d e l =
    let t : is_digit (48 + d) ≡ true = range-intro 48 57 (48 + d) (omega arith) (omega arith) in
    let v : 48 + d - 48 ≡ d = omega arith in
    rw (e, t, v)

pub digits-stop : (k : ℕ) (s : List ℕ) (at n c : ℕ) → u8_at s at ≡ c → is_digit c ≡ false
    → digits_at k s at n ≡ record { value = n; next = at }
unfolding digits_at pick
digits-stop zero s at n c e d = refl
digits-stop (suc k) s at n c e d = rw (e, d)

-- a text of p + 1 digits at most, and of one at least, that give n
record DigitsOf (n p : ℕ) (text : List ℕ) : Type 0 where
  few : length text ≤ suc p
  some : 1 ≤ length text
  back : (k : ℕ) (s : List ℕ) (at : ℕ) (rest : List ℕ) → drop at s ≡ text ++ rest
      → digits_at (length text + k) s at 0 ≡ digits_at k s (at + length text) n

one-back : (p n : ℕ) → n < 10 → DigitsOf n p (decimal n)
one-back p n l =
    rw (decimal-one n l) record {
      few = omega arith;
      some = omega arith;
      back = λ k s at rest e.
          let m : 1 + k ≡ suc k = omega arith in
          let v : 10 * 0 + n % 10 ≡ n = omega arith in
          ap (λ (j : ℕ). digits_at j s at 0) m
          ∙ digit-step k s at 0 (n % 10) (first s at (digit n) rest e) (omega arith)
          ∙ ap (digits_at k s (at + 1)) v;
    }

more-back : (p n : ℕ) → 10 ≤ n → n ≤ last_place → DigitsOf (n / 10) p (decimal (n / 10)) → DigitsOf n (suc p) (decimal n)
more-back p n l h ten =
    let x = decimal (n / 10) in
    let long : length (x ++ (digit n ∷ [])) ≡ length x + 1 = length-append x (digit n ∷ []) in
    rw (decimal-more n l h) record {
      few = omega (arith, long, ten.few);
      some = omega (arith, long);
      back = λ k s at rest e.
          let f : drop at s ≡ x ++ (digit n ∷ rest) = e ∙ append_assoc x (digit n ∷ []) rest in
          let m : length x + 1 + k ≡ length x + suc k = omega arith in
          let v : 10 * (n / 10) + n % 10 ≡ n = omega arith in
          let a : at + (length x + 1) ≡ at + length x + 1 = omega arith in
          rw (long, m, a)
          (ten.back (suc k) s at (digit n ∷ rest) f
          ∙ digit-step k s (at + length x) (n / 10) (n % 10)
          (first s (at + length x) (digit n) rest (past s at x (digit n ∷ rest) f)) (omega arith)
          ∙ ap (digits_at k s (at + length x + 1)) v);
    }

digits-back : (p n : ℕ) → n < 10 ^ suc p → n ≤ last_place → DigitsOf n p (decimal n)
digits-back zero n h m = one-back 0 n h
digits-back (suc p) n h m =
    ⊎_elim (λ l. one-back (suc p) n l)
    (λ l.
    let q : n / 10 < 10 ^ suc p = (div-lt_iff_lt-mul (lit< tt)).1 (rw pow-suc at h) in
    more-back p n l m (digits-back p (n / 10) q (omega arith)))
    (lt-or-le n 10)

-- a number where it stands before something that is no digit
pub number-back : (s : List ℕ) (at n c : ℕ) (rest : List ℕ) → drop at s ≡ decimal n ++ (c ∷ rest) → is_digit c ≡ false
    → n < 10000000000 → number_at s at ≡ record { value = n; next = at + length (decimal n) }
unfolding number_at
number-back s at n c rest e d l =
    let ten = digits-back 9 n l (omega arith) in
    let few = ten.few in
    let k : 10 ≡ length (decimal n) + (10 - length (decimal n)) = omega arith in
    ap (λ (j : ℕ). digits_at j s at 0) k
    ∙ ten.back (10 - length (decimal n)) s at (c ∷ rest) e
    ∙ digits-stop (10 - length (decimal n)) s (at + length (decimal n)) n c
    (first s (at + length (decimal n)) c rest (past s at (decimal n) (c ∷ rest) e)) d

-- a line with a number: its value, and what stands after the line
pub record Found (m : Numeral) (n : ℕ) (s rest : List ℕ) : Type 0 where
  pub value : m.value ≡ n
  pub after : drop m.next s ≡ rest

pub number-line : (s : List ℕ) (at n : ℕ) (name rest : List ℕ) → n < 10000000000 → drop at s ≡ number_line name n ++ rest
    → Found (number_in (length name) s at) n s rest
number-line s at n name rest l e =
    let m = number-back s (at + length name) n 10 rest (value_there s at name (decimal n) rest e) refl l in
    record { value = ap (λ (x : Numeral). x.value) m; after = rw m (line_past s at name (decimal n) rest e) }

-- a line with a date
pub record DateFound (read m : Minute) (next : ℕ) (s rest : List ℕ) : Type 0 where
  pub value : read ≡ m
  pub after : drop next s ≡ rest

pub date-length : (d : Date) → length (date_text d) ≡ 16
unfolding date_text
date-length d = refl

date-back : (s : List ℕ) (at : ℕ) (m : Minute) (rest : List ℕ) → m.0 ≤ last_minute → drop at s ≡ print_of m ++ rest
    → date_at s at ≡ m
unfolding part
date-back s at m rest l e =
    let p : part s at 16 ≡ print_of m = ap (take 16) e ∙ take_at (print_of m) rest 16 (date-length (date_of m)) in
    ap (λ (x : List ℕ). minute_or_0 (date_read x)) p ∙ ap minute_or_0 (minute-back m l)

pub date-line : (s : List ℕ) (at : ℕ) (m : Minute) (name rest : List ℕ) → m.0 ≤ last_minute
    → drop at s ≡ date_line name m ++ rest → DateFound (date_at s (at + length name)) m (at + length name + 17) s rest
date-line s at m name rest l e =
    let n : at + length name + length (print_of m) + 1 ≡ at + length name + 17 = omega (arith, date-length (date_of m)) in
    record {
      value = date-back s (at + length name) m (10 ∷ rest) l (value_there s at name (print_of m) rest e);
      after = rw n at (line_past s at name (print_of m) rest e);
    }

-- hexadecimal digits
digit-back : (n : ℕ) → n < 16 → hex_value (hex_digit n) ≡ n
unfolding hex_value pick
digit-back n l =
    ⊎_elim (λ a. rw (lt-ltb n 10 a, lt-leb 97 (48 + n) (omega arith)) (omega arith))
    (λ b. rw (le-ltb n 10 b, le-leb 97 (87 + n) (omega arith)) (omega arith)) (lt-or-le n 10)

pub hex-length : (bytes : List ℕ) → length (hex_text bytes) ≡ 2 * length bytes
unfolding hex_text
hex-length [] = refl
hex-length (b ∷ bs) = omega (arith, hex-length bs)

-- the first two digits, and what comes after them
module _ (s : List ℕ) (at j b : ℕ) (rest : List ℕ) (small : b < 256)
    (there : drop (at + 2 * j) s ≡ hex_digit (b / 16) ∷ hex_digit (b % 16) ∷ rest) where
  byte-past : drop (at + 2 * (j + 1)) s ≡ rest
  byte-past =
      let a : at + 2 * j + 2 ≡ at + 2 * (j + 1) = omega arith in
      rw a at (past s (at + 2 * j) (hex_digit (b / 16) ∷ hex_digit (b % 16) ∷ []) rest there)

  byte-back : hex_byte s at j ≡ b
  byte-back =
      let high = first s (at + 2 * j) _ _ there in
      let low = first s (at + 2 * j + 1) _ _ (past s (at + 2 * j) (hex_digit (b / 16) ∷ []) (hex_digit (b % 16) ∷ rest) there) in
      rw (high, low, digit-back (b / 16) (omega arith), digit-back (b % 16) (omega arith)) (omega arith)

bytes-back : (s : List ℕ) (at j : ℕ) (bytes rest : List ℕ) → AreBytes bytes
    → drop (at + 2 * j) s ≡ hex_text bytes ++ rest → series (hex_byte s at) j (length bytes) ≡ bytes
unfolding hex_text series
bytes-back s at j [] rest small e = refl
bytes-back s at j (b ∷ bs) rest small e =
    rw (
      byte-back s at j b (hex_text bs ++ rest) (small 0) e,
      bytes-back s at (j + 1) bs rest (λ i. small (suc i)) (byte-past s at j b (hex_text bs ++ rest) (small 0) e),
    )

pub identifier-back : (s : List ℕ) (at : ℕ) (bytes rest : List ℕ) → length bytes ≡ 16 → AreBytes bytes
    → drop at s ≡ hex_text bytes ++ rest → series (hex_byte s at) 0 16 ≡ bytes
identifier-back s at bytes rest long small e =
    let z : at + 2 * 0 ≡ at = omega arith in
    rw long at (bytes-back s at 0 bytes rest small (rw z e))

-- kW
pub no-hyphen : (s : List ℕ) (at n c : ℕ) (rest : List ℕ) → drop at s ≡ decimal n ++ (c ∷ rest) → is_digit c ≡ false
    → n < 10000000000 → eqb (u8_at s at) 45 ≡ false
unfolding number_at
no-hyphen s at n c rest e d l =
    ne_eqb (u8_at s at) 45
    (λ h.
    let ten = digits-back 9 n l (omega arith) in
    let none = digits-stop 10 s at 0 45 h refl in
    absurd (omega (arith, ten.some, ap (λ (x : Numeral). x.next) (sym none ∙ number-back s at n c rest e d l))))

plus-back : (s : List ℕ) (at n : ℕ) (rest : List ℕ) → n < 4294967296 → drop at s ≡ decimal n ++ (10 ∷ rest)
    → Found (power_at s at) n s rest
unfolding power_at pick
plus-back s at n rest l e =
    let m = number-back s at n 10 rest e refl (omega arith) in
    let v : n % 4294967296 ≡ n = omega arith in
    let f = past s at (decimal n) (10 ∷ rest) e in
    rw (no-hyphen s at n 10 rest e refl (omega arith), m, v) (record {
      value = refl;
      after = past s (at + length (decimal n)) (10 ∷ []) rest f;
    })

minus-back : (s : List ℕ) (at n : ℕ) (rest : List ℕ) → 1 ≤ n → n ≤ 4294967296 → drop at s ≡ 45 ∷ (decimal n ++ (10 ∷ rest))
    → Found (power_at s at) (4294967296 - n) s rest
unfolding power_at pick
minus-back s at n rest low l e =
    let f = past s at (45 ∷ []) (decimal n ++ (10 ∷ rest)) e in
    let m = number-back s (at + 1) n 10 rest f refl (omega arith) in
    let v : (4294967296 - n) % 4294967296 ≡ 4294967296 - n = omega arith in
    let g = past s (at + 1) (decimal n) (10 ∷ rest) f in
    rw (first s at 45 (decimal n ++ (10 ∷ rest)) e, m, v) (record {
      value = refl;
      after = past s (at + 1 + length (decimal n)) (10 ∷ []) rest g;
    })

pub power-back : (s : List ℕ) (at u : ℕ) (rest : List ℕ) → u < 4294967296
    → drop at s ≡ signed_decimal (to_z w32 u) ++ (10 ∷ rest) → Found (power_at s at) u s rest
unfolding signed_decimal pick
power-back s at u rest l =
    ⊎_elim (λ low. rw (to_z_pos w32 u low, le-leb 0 u (omega arith)) (λ e. plus-back s at u rest l e))
    (λ high.
    let k : 4294967296 - suc (4294967295 - u) ≡ u = omega arith in
    let q : to_z w32 u ≡ negsuc (4294967295 - u) = ap (to_z w32) (sym k) ∙ to_z-neg w32 (4294967295 - u) (omega arith) in
    rw q (λ e. rw k at (minus-back s at (suc (4294967295 - u)) rest (omega arith) (omega arith) e)))
    (lt-or-le u 2147483648)
