-- What is put before a text: pieces, lines, numbers, a run of points. Assumes nothing.
use Prim.Native.Nat.{ℕ, zero, suc, ◌+◌, ◌-◌, ◌*◌, ◌/◌, ◌%◌, ◌≤◌, ◌<◌}
use mathlib.Core.Path.{◌≡◌, refl, ap, sym, ◌∙◌}
use mathlib.Core.Bool.{true, false}
use mathlib.Core.List.{List, [], ◌∷◌, ◌++◌, append_assoc, append-nil}
use native.Mathlib.Omega.{arith}
use lib.Dec.{ltb}
use lib.IntN.{ℤ, pos, nat_abs}
use lib.Signed.{le_z}
use lib.ListN.{length, length-append, length-drop, drop, drop_of_length-le, get_or}
use lib.Seq.{drop-cons, drop-length}
use borrow.Author.Tests.{lt-ltb, le-ltb, eq-eqb, ne_eqb}
use Rattle.std.specs.Prelude.{Ok, Err}
use Rattle.fields.specs.Lists.{pick, series}
use Rattle.fields.specs.Ascii.{ascii}
use Rattle.fields.proofs.Bools.{pick-elim}
use Rattle.quantities.specs.declared.Minute.{Minute}
use Rattle.quantities.specs.Quantities.{is_time}
use Rattle.calendar.specs.Calendar.{digit, print_answer}
use Rattle.calendar.specs.Reading.{print_of}
use Rattle.calendar.specs.declared.DateError.{DateError}
use Rattle.report.specs.declared.Head.{Head}
use Rattle.report.specs.declared.Part.{Part}
use Rattle.texts.specs.Numerals.{decimal_before, decimal, hex_digit, line_feed}
use Rattle.texts.proofs.Texts.{decimal-before, decimal-length}
use Rattle.forms.specs.declared.Tail.{Tail}
use Rattle.forms.specs.Tails.{Prepends}
use Rattle.forms.specs.Values.{line, number_line, hex_text, signed_decimal}
use Rattle.forms.specs.Form.{point_line, point_lines, part_lines}

-- nothing yet
pub nothing : {a : Tail} → Prepends 0 a [] a
nothing = record { same_reference = refl; size = refl; start = omega arith; text = refl; upper_bound = omega arith }

-- one text and, before it, another
pub ahead : {m n : ℕ} {a b d : Tail} {x y : List ℕ} → Prepends n b y d → Prepends m a x b → Prepends (n + m) a (y ++ x) d
ahead {a = a} {x = x} {y = y} q p =
    record {
      same_reference = q.same_reference ∙ p.same_reference;
      size = q.size ∙ p.size;
      start = omega (arith, length-append y x, q.start, p.start);
      text = q.text ∙ rw p.text (sym (append_assoc y x (drop a.start a.bytes.now)));
      upper_bound = omega (arith, length-append y x, q.upper_bound, p.upper_bound);
    }

-- a text that equals another, and may be longer
pub same_text : {m n : ℕ} {a b : Tail} {x y : List ℕ} → x ≡ y → m ≤ n → Prepends m a x b → Prepends n a y b
same_text e h p = rw (← e) record {
  same_reference = p.same_reference;
  size = p.size;
  start = p.start;
  text = p.text;
  upper_bound = omega (arith, h, p.upper_bound);
}

-- a text is no longer than it is
pub shorter : {m n : ℕ} {a b : Tail} {x : List ℕ} → length x ≤ n → Prepends m a x b → Prepends n a x b
shorter h p = record {
  same_reference = p.same_reference;
  size = p.size;
  start = p.start;
  text = p.text;
  upper_bound = h;
}

-- name, value and line feed
pub put-line : {k m : ℕ} {a b d e : Tail} {name value : List ℕ} → Prepends k d name e → Prepends m b value d → Prepends 1 a line_feed b
    → Prepends (k + (m + 1)) a (line name value) e
unfolding line
put-line p q r = ahead p (ahead q r)

-- the first number of so many digits and one more
unfoldable pub tens : ℕ → ℕ
tens zero = 1
tens (suc n) = 10 * tens n

-- a number, of which `left` is still to be put, with places for so many digits and one
pub record Counting (a : Tail) (n left : ℕ) (b : Tail) : Type 0 where
  pub same_reference : b.bytes.ghost_name ≡ a.bytes.ghost_name
  pub size : length b.bytes.now ≡ length a.bytes.now
  pub places : ℕ
  pub most : places ≤ 19
  pub start : b.start + 19 ≡ a.start + places
  pub few : left < tens (suc places)
  pub text : decimal_before (suc places) left (drop b.start b.bytes.now) ≡ decimal_before 20 n (drop a.start a.bytes.now)

pub count-none : {a : Tail} {n : ℕ} → n < 18446744073709551616 → Counting a n n a
unfolding tens
count-none l = record { same_reference = refl; size = refl; places = 19; most = omega arith; start = refl; few = omega arith; text = refl }

digit-next : {a b d : Tail} {n left v : ℕ} (places : ℕ) → 10 ≤ left → v ≡ digit left → Counting a n left b → Prepends 1 b (v ∷ []) d
    → b.start + 19 ≡ a.start + places → places ≤ 19 → left < tens (suc places)
    → decimal_before (suc places) left (drop b.start b.bytes.now) ≡ decimal_before 20 n (drop a.start a.bytes.now)
    → Counting a n (left / 10) d
unfolding decimal_before pick tens
digit-next zero more e c p at most few text = absurd (omega arith)
digit-next {left = left} (suc places) more e c p at most few text =
    record {
      same_reference = p.same_reference ∙ c.same_reference;
      size = p.size ∙ c.size;
      places = places;
      most = omega arith;
      start = omega (arith, p.start, at);
      few = omega arith;
      text = rw (p.text, e) (rw (le-ltb left 10 more) at text);
    }

pub count-more : {a b d : Tail} {n left v : ℕ} → 10 ≤ left → v ≡ digit left → Counting a n left b → Prepends 1 b (v ∷ []) d
    → Counting a n (left / 10) d
count-more more e c p = digit-next c.places more e c p c.start c.most c.few c.text

module _ {a b : Tail} (n : ℕ) (inside : a.start ≤ length a.bytes.now) (same : b.bytes.ghost_name ≡ a.bytes.ghost_name)
    (size : length b.bytes.now ≡ length a.bytes.now) (most : b.start ≤ a.start)
    (text : drop b.start b.bytes.now ≡ decimal_before 20 n (drop a.start a.bytes.now)) where
  counted : Prepends 20 a (decimal n) b
  counted =
      let there : drop b.start b.bytes.now ≡ decimal n ++ drop a.start a.bytes.now = text ∙ decimal-before 20 n (drop a.start a.bytes.now) in
      let long = simp (length-drop, length-append) at (ap length there) in
      record {
        same_reference = same;
        size = size;
        start = omega (arith, long, size, most, inside);
        text = there;
        upper_bound = decimal-length 20 n [];
      }

pub count-ends : {a b d : Tail} (n : ℕ) {left v : ℕ} → a.start ≤ length a.bytes.now → left < 10 → v ≡ digit left
    → Counting a n left b → Prepends 1 b (v ∷ []) d → Prepends 20 a (decimal n) d
unfolding decimal_before pick
count-ends n {left = left} inside less e c p =
    let text = rw (lt-ltb left 10 less) at c.text in
    counted n inside (p.same_reference ∙ c.same_reference) (p.size ∙ c.size) (omega (arith, p.start, c.start, c.most)) (p.text ∙ rw e text)

-- ten digits hold each number of 32 bits
digits-few : (k places n : ℕ) (text : List ℕ) → n < tens (suc k) → length (decimal_before places n text) ≤ suc k + length text
unfolding decimal_before tens pick
digits-few k zero n text l = omega arith
digits-few zero (suc places) n text l =
    let small : ltb n 10 ≡ true = lt-ltb n 10 (omega arith) in
    rw small (omega arith)
digits-few (suc k) (suc places) n text l =
    pick-elim (λ (x : List ℕ). length x ≤ suc (suc k) + length text) (ltb n 10) (λ e. omega arith)
    (λ e. let h = digits-few k places (n / 10) (digit n ∷ text) (omega arith) in omega arith)

pub ten-digits : (n : ℕ) → n < 10000000000 → length (decimal n) ≤ 10
unfolding tens
ten-digits n l = digits-few 9 20 n [] l

-- a minute's print
pub printed : (m : Minute) {date : List ℕ} → is_time m ≡ true → Ok date ≡ print_answer m → date ≡ print_of m
unfolding pick
printed m time e = cc (rw time at e)

pub not-refused : (m : Minute) {e : DateError} → is_time m ≡ true → Err e ≡ print_answer m → ⊥
unfolding pick
not-refused m time e = cc (rw time at e)

-- a power, by its sign; its size has ten digits at most
module _ (z : ℤ) {n : ℕ} (size : n ≡ nat_abs z) (small : n < 4294967296) {a b : Tail} where
  pub put-plus : le_z (pos 0) z ≡ true → Prepends 20 a (decimal n) b → Prepends 11 a (signed_decimal z) b
  unfolding signed_decimal pick
  put-plus e p = rw (e, ← size) (shorter (omega (arith, ten-digits n (omega arith))) p)

  pub put-minus : {d : Tail} → le_z (pos 0) z ≡ false → Prepends 1 b (45 ∷ []) d → Prepends 20 a (decimal n) b
      → Prepends 11 a (signed_decimal z) d
  unfolding signed_decimal pick
  put-minus e p q = rw (e, ← size) (ahead p (shorter (ten-digits n (omega arith)) q))

-- an identifier's digits, from its last byte to its first
module _ (bytes : List ℕ) (size : length bytes ≡ 16) where
  pub hex-none : {a : Tail} → Prepends 0 a (hex_text (drop 16 bytes)) a
  unfolding hex_text
  hex-none =
      let none : drop 16 bytes ≡ [] = drop_of_length-le bytes {i = 16} (omega arith) in
      rw none nothing

  pub hex-more : {m : ℕ} {a b d : Tail} {i v : ℕ} → i < 16 → v ≡ get_or bytes (15 - i) 0
      → Prepends 2 b (hex_digit (v / 16) ∷ hex_digit (v % 16) ∷ []) d → Prepends m a (hex_text (drop (16 - i) bytes)) b
      → Prepends (2 + m) a (hex_text (drop (16 - (i + 1)) bytes)) d
  unfolding hex_text
  hex-more {i = i} {v = v} l same q p =
      let here : 16 - (i + 1) ≡ 15 - i = omega arith in
      let next : 16 - i ≡ suc (15 - i) = omega arith in
      let first : get_or bytes (15 - i) 0 ∷ drop (suc (15 - i)) bytes ≡ v ∷ drop (suc (15 - i)) bytes
      = ap (λ (x : ℕ). x ∷ drop (suc (15 - i)) bytes) (sym same) in
      let cut : drop (16 - (i + 1)) bytes ≡ v ∷ drop (16 - i) bytes = rw (here, next) (drop-cons bytes (15 - i) 0 (omega arith) ∙ first) in
      rw cut (ahead q p)

-- a run of points, from the last one to the first
pub points-none : (h : Head) (step : ℕ) (f : ℕ → Part) (k : ℕ) {a : Tail} → Prepends 0 a (point_lines h step (series f k 0)) a
unfolding point_lines series
points-none h step f k = nothing

pub points-more : (h : Head) (step : ℕ) (f : ℕ → Part) (k j : ℕ) {m n : ℕ} {a b d : Tail} {p : Part} → j < k → p ≡ f (k - 1 - j)
    → Prepends n b (point_line h step p) d → Prepends m a (point_lines h step (series f (k - j) j)) b
    → Prepends (n + m) a (point_lines h step (series f (k - (j + 1)) (j + 1))) d
unfolding point_lines series
points-more h step f k j l e q p =
    let one : j + 1 ≡ suc j = omega arith in
    let here : k - (j + 1) ≡ k - 1 - j = omega arith in
    let next : k - j ≡ k - 1 - j + 1 = omega arith in
    rw (here, one, ← next, ← e) (ahead q p)

-- the lines of the parts, where there are none and where there are some
pub no-points : {a : Tail} (h : Head) (step : ℕ) (ps : List Part) → length ps ≡ 0 → Prepends 0 a (part_lines h step ps) a
unfolding part_lines pick
no-points h step ps e = rw (eq-eqb (length ps) 0 e) nothing

pub some-points : {m n : ℕ} {a b d : Tail} (h : Head) (step : ℕ) (ps : List Part) → (length ps ≡ 0 → ⊥)
    → Prepends m b (number_line (ascii "resolution=") step) d → Prepends n a (point_lines h step ps) b
    → Prepends (m + n) a (part_lines h step ps) d
unfolding part_lines pick
some-points h step ps ne p q = rw (ne_eqb (length ps) 0 ne) (ahead p q)

-- a whole form, up to the end of the bytes
pub all-put : {m : ℕ} {a b : Tail} {x there : List ℕ} → a.start ≡ length a.bytes.now → Prepends m a x b → there ≡ b.bytes.now
    → drop b.start there ≡ x
all-put {a = a} {x = x} at-end p e = rw e (p.text ∙ rw (at-end, drop-length a.bytes.now) (append-nil x))
