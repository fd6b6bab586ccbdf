-- Digits that are spelled as a number is are those of the number that is read from them. Assumes nothing.
use Prim.Native.Nat.{ℕ, zero, suc, ◌+◌, ◌-◌, ◌*◌, ◌/◌, ◌^◌, ◌≤◌, ◌<◌}
use mathlib.Core.Path.{◌≡◌, refl, ap, sym, ◌∙◌}
use mathlib.Core.Bool.{Bool, true, false}
use mathlib.Core.List.{List, [], ◌∷◌, ◌++◌, append_assoc}
use mathlib.Core.Logic.{⊎_elim}
use native.Mathlib.Omega.{arith}
use native.Mathlib.Nat.{pow-suc, pow-le-pow_right, div-lt_iff_lt-mul}
use lib.Dec.{eqb, lit<}
use lib.ListN.{length, drop}
use borrow.Author.Tests.{eqb-true, eqb-false, eq-eqb, ne_eqb}
use Rattle.fields.specs.Fields.{u8_at}
use Rattle.fields.specs.Lists.{pick}
use Rattle.fields.proofs.Bools.{pick-elim, range-true, range-intro, lt-or-le}
use Rattle.calendar.specs.Calendar.{digit}
use Rattle.texts.specs.Texts.{last_place}
use Rattle.texts.specs.Numerals.{decimal}
use Rattle.texts.proofs.Texts.{decimal-one, decimal-more}
use Rattle.form_reading.specs.declared.Numeral.{Numeral}
use Rattle.form_reading.specs.Reading.{is_digit, digits_at, number_at}
use Rattle.form_reader.specs.Spelled.{is_plain}
use Rattle.form_reader.proofs.Standing.{byte_there}
use Rattle.form_reading.proofs.Values.{first, past, digit-step, digits-stop, number-back}

-- a number and a digit of a text
below_next : (m d j : ℕ) → d ≤ 9 → m < 10 ^ j → 10 * m + d < 10 ^ suc j
below_next m d j l small = rw pow-suc (omega (arith, l, small))

decimal_next : (m c j : ℕ) → suc j ≤ 10 → 1 ≤ m → m < 10 ^ j → 48 ≤ c → c ≤ 57 → decimal (10 * m + (c - 48)) ≡ decimal m ++ (c ∷ [])
decimal_next m c j few some small low high =
    let n = 10 * m + (c - 48) in
    let most : 10 ^ suc j ≤ 10 ^ 10 = pow-le-pow_right {n = 10} (omega arith) {i = suc j} {j = 10} few in
    let below : n < 10 ^ suc j = below_next m (c - 48) j (omega arith) small in
    let front : n / 10 ≡ m = omega (arith, low, high) in
    let last : digit n ≡ c = omega (arith, low, high) in
    decimal-more n (omega arith) (omega (arith, below, most)) ∙ rw (front, last)

-- digits read on, after those of a number above 0
module _ (s : List ℕ) (start : ℕ) where
  next_there : (at m c j : ℕ) → suc j ≤ 10 → 1 ≤ m → m < 10 ^ j → u8_at s at ≡ c → 48 ≤ c → c ≤ 57
      → drop start s ≡ decimal m ++ drop at s → drop start s ≡ decimal (10 * m + (c - 48)) ++ drop (at + 1) s
  next_there at m c j few some small here low high e =
      e ∙ ap (λ (l : List ℕ). decimal m ++ l) (byte_there s at c here (omega arith))
      ∙ sym (append_assoc (decimal m) (c ∷ []) (drop (at + 1) s))
      ∙ ap (λ (l : List ℕ). l ++ drop (at + 1) s) (sym (decimal_next m c j few some small low high))

  read-on : (k at m j : ℕ) → k + j ≤ 10 → 1 ≤ m → m < 10 ^ j → drop start s ≡ decimal m ++ drop at s
      → drop start s ≡ decimal (digits_at k s at m).value ++ drop (digits_at k s at m).next s
  unfolding digits_at
  read-on zero at m j few some small e = e
  read-on (suc k) at m j few some small e =
      let c = u8_at s at in
      pick-elim (λ (n : Numeral). drop start s ≡ decimal n.value ++ drop n.next s) (is_digit c)
      (λ d.
      let range = range-true 48 57 c d in
      read-on k (at + 1) (10 * m + (c - 48)) (suc j) (omega arith) (omega arith) (below_next m (c - 48) j (omega (arith, range)) small)
      (next_there at m c j (omega arith) some small refl range.0 range.1 e))
      (λ d. e)

-- where no digit is read, the number stays
onward : (k : ℕ) (s : List ℕ) (at n : ℕ) → at ≤ (digits_at k s at n).next
unfolding digits_at
onward zero s at n = omega arith
onward (suc k) s at n =
    let c = u8_at s at in
    let rest = onward k s (at + 1) (10 * n + (c - 48)) in
    pick-elim (λ (m : Numeral). at ≤ m.next) (is_digit c) (λ d. omega (arith, rest)) (λ d. omega arith)

stays : (k : ℕ) (s : List ℕ) (at n : ℕ) → (digits_at k s at n).next ≡ at → (digits_at k s at n).value ≡ n
unfolding digits_at
stays zero s at n = λ e. refl
stays (suc k) s at n =
    let c = u8_at s at in
    let rest = onward k s (at + 1) (10 * n + (c - 48)) in
    pick-elim (λ (m : Numeral). m.next ≡ at → m.value ≡ n) (is_digit c) (λ d e. absurd (omega (arith, rest))) (λ d e. refl)

-- plain digits are those of the number
module _ (s : List ℕ) (at : ℕ) where
  from-digit : (d : ℕ) → u8_at s at ≡ 48 + d → d < 10 → number_at s at ≡ digits_at 9 s (at + 1) d
  unfolding number_at
  from-digit d c l =
      let n : 10 * 0 + d ≡ d = omega arith in
      digit-step 9 s at 0 d c l ∙ ap (digits_at 9 s (at + 1)) n

  one-digit : u8_at s at ≡ 48 → (number_at s at).next ≡ at + 1 → drop at s ≡ decimal (number_at s at).value ++ drop (number_at s at).next s
  one-digit c e =
      let step = from-digit 0 c (omega arith) in
      let value : (number_at s at).value ≡ 0 = rw step (stays 9 s (at + 1) 0 (rw step at e)) in
      rw (value, e, decimal-one 0 (omega arith)) (byte_there s at 48 c (omega arith))

  some-digits : (eqb (u8_at s at) 48) ≡ false → is_digit (u8_at s at) ≡ true
      → drop at s ≡ decimal (number_at s at).value ++ drop (number_at s at).next s
  some-digits z d =
      let c = u8_at s at in
      let range = range-true 48 57 c d in
      let ne = eqb-false c 48 z in
      let above : 1 ≤ c - 48 = omega arith in
      let one : decimal (c - 48) ≡ c ∷ [] = decimal-one (c - 48) (omega (arith, range)) ∙ ap (λ (q : ℕ). q ∷ []) (omega (arith, range)) in
      rw (from-digit (c - 48) (omega (arith, range)) (omega (arith, range)))
      (read-on s at 9 (at + 1) (c - 48) 1 (omega arith) above (omega (arith, range)) (rw one (byte_there s at c refl (omega (arith, range)))))

  pub plain-there : is_plain (u8_at s at) (eqb (number_at s at).next (at + 1)) ≡ true
      → drop at s ≡ decimal (number_at s at).value ++ drop (number_at s at).next s
  unfolding is_plain
  plain-there =
      let there = drop at s ≡ decimal (number_at s at).value ++ drop (number_at s at).next s in
      pick-elim (λ (t : Bool). t ≡ true → there) (eqb (u8_at s at) 48)
      (λ z e. one-digit (eqb-true (u8_at s at) 48 z) (eqb-true (number_at s at).next (at + 1) e))
      (λ z e. some-digits z e)

-- a digit before something that is no digit
pub one_digit : (s : List ℕ) (at c e : ℕ) → u8_at s at ≡ c → is_digit c ≡ true → u8_at s (at + 1) ≡ e → is_digit e ≡ false
    → number_at s at ≡ record { value = c - 48; next = at + 1 }
one_digit s at c e here d next stop =
    let range = range-true 48 57 c d in
    from-digit s at (c - 48) (here ∙ omega (arith, range)) (omega (arith, range)) ∙ digits-stop 9 s (at + 1) (c - 48) e next stop

-- and the digits of a number are plain
record Begins (text : List ℕ) : Type 0 where
  byte : ℕ
  others : List ℕ
  same : text ≡ byte ∷ others
  low : 49 ≤ byte
  high : byte ≤ 57

begins : (p n : ℕ) → n < 10 ^ suc p → 1 ≤ n → n ≤ last_place → Begins (decimal n)
begins zero n l some h =
    record { byte = digit n; others = []; same = decimal-one n l; low = omega (arith, l, some); high = omega (arith, l, some) }
begins (suc p) n l some h =
    ⊎_elim
    (λ (few : n < 10).
    record { byte = digit n; others = []; same = decimal-one n few; low = omega (arith, few, some); high = omega (arith, few, some) })
    (λ (many : 10 ≤ n).
    let q : n / 10 < 10 ^ suc p = (div-lt_iff_lt-mul (lit< tt)).1 (rw pow-suc at l) in
    let front = begins p (n / 10) q (omega (arith, many)) (omega (arith, h)) in
    record {
      byte = front.byte;
      others = front.others ++ (digit n ∷ []);
      same = decimal-more n many h ∙ rw (front.same);
      low = front.low;
      high = front.high;
    })
    (lt-or-le n 10)

module _ (s : List ℕ) (at n c : ℕ) (rest : List ℕ) (there : drop at s ≡ decimal n ++ (c ∷ rest)) (stop : is_digit c ≡ false)
    (small : n < 10000000000) where
  read : number_at s at ≡ record { value = n; next = at + length (decimal n) }
  read = number-back s at n c rest there stop small

  plain-none : n ≡ 0 → is_plain (u8_at s at) (eqb (number_at s at).next (at + 1)) ≡ true
  unfolding is_plain pick
  plain-none z =
      let one : decimal n ≡ 48 ∷ [] = rw z (decimal-one 0 (omega arith)) in
      rw (first s at 48 (c ∷ rest) (rw one at there), read, one) (eq-eqb (at + 1) (at + 1) refl)

  plain-some : 1 ≤ n → is_plain (u8_at s at) (eqb (number_at s at).next (at + 1)) ≡ true
  unfolding is_plain pick
  plain-some some =
      let front = begins 9 n small some (omega (arith, small)) in
      let here : u8_at s at ≡ front.byte = first s at front.byte (front.others ++ (c ∷ rest)) (rw front.same at there) in
      rw (here, ne_eqb front.byte 48 (λ e. omega (arith, front.low))) (range-intro 48 57 front.byte (omega (arith, front.low)) front.high)

  pub there-plain : is_plain (u8_at s at) (eqb (number_at s at).next (at + 1)) ≡ true
  there-plain = ⊎_elim (λ (z : n < 1). plain-none (omega arith)) plain-some (lt-or-le n 1)

  pub there-stops : u8_at s (number_at s at).next ≡ c
  there-stops = rw read (first s (at + length (decimal n)) c rest (past s at (decimal n) (c ∷ rest) there))
