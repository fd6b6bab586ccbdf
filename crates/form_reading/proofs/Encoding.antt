-- A whole report's bytes are its head, its parts and its text, encoded again. Assumes nothing.
use Prim.Native.Nat.{ℕ, zero, suc, ◌+◌, ◌*◌, ◌/◌, ◌%◌, ◌≤◌, ◌<◌}
use mathlib.Core.Path.{◌≡◌, refl, ap, sym, ◌∙◌}
use mathlib.Core.Bool.{true, ◌&&◌}
use mathlib.Core.List.{List, [], ◌∷◌, ◌++◌}
use native.Mathlib.Omega.{arith}
use native.Mathlib.Nat.{zero-add}
use lib.Dec.{eqb}
use lib.ListN.{length, drop}
use lib.Seq.{take-add, take_all, drop-drop}
use borrow.Author.Tests.{eqb-true}
use mir.Syntax.{w32}
use mir.Val.{to_z, of_z}
use Rattle.std.proofs.lemmas.Int.{of_z-to_z}
use Rattle.fields.specs.Lists.{part, series}
use Rattle.fields.specs.Fields.{u8_at, u16_at, u32_at, uint_at, bytes_of}
use Rattle.fields.proofs.Bools.{and_left, and_right}
use Rattle.fields.proofs.Tests.{all-at}
use Rattle.fields.proofs.Rests.{series-taken}
use Rattle.report.specs.Report.{report_mark, part_mark, text_mark, part_start, part_count_of, text_length_of, head_of, part_at, parts_of, part_marked, parts_marked, sized, marked, whole}
use Rattle.report.specs.Encoded.{encode_head, encode_part, encode_parts, encode_report}
use Rattle.report.proofs.Sizes.{whole-sized}
use Rattle.forms.specs.Form.{text_of}
use Rattle.forms.specs.Form.{AreBytes}
use Rattle.form_reading.proofs.Bytes.{four-small}

-- one stretch after the other
pub stretch-join : {x y : List ℕ} (s : List ℕ) (at n m : ℕ) → x ≡ part s at n → y ≡ part s (at + n) m
    → x ++ y ≡ part s at (n + m)
unfolding part
stretch-join s at n m a b = rw (a, b, ← drop-drop n at s) (sym (take-add n m (drop at s)))

front-join : {x y : List ℕ} (s : List ℕ) (n m : ℕ) → x ≡ part s 0 n → y ≡ part s n m → x ++ y ≡ part s 0 (n + m)
front-join s n m a b = stretch-join s 0 n m a (b ∙ ap (λ (k : ℕ). part s k m) (sym (zero-add n)))

-- the marks and zeros of a whole report
record Marked (s : List ℕ) : Type 0 where
  head : u16_at s 0 ≡ report_mark
  no_bits : u16_at s 46 ≡ 0
  parts : (j : ℕ) → j < part_count_of s → (u16_at s (part_start j) ≡ part_mark) × (u16_at s (part_start j + 2) ≡ 0)
  text : u16_at s (part_start (part_count_of s)) ≡ text_mark

whole-marked : (s : List ℕ) → whole s ≡ true → Marked s
unfolding whole marked
whole-marked s e =
    let a = eqb (u16_at s 0) report_mark in
    let b = eqb (u16_at s 46) 0 in
    let c = parts_marked s (part_count_of s) in
    let d = eqb (u16_at s (part_start (part_count_of s))) text_mark in
    let m = and_right (sized s) (a && b && c && d) e in
    let abc = and_left (a && b && c) d m in
    let ab = and_left (a && b) c abc in
    record {
      head = eqb-true _ _ (and_left a b ab);
      no_bits = eqb-true _ _ (and_right a b ab);
      parts = λ j l.
          let p = eqb (u16_at s (part_start j)) part_mark in
          let q = eqb (u16_at s (part_start j + 2)) 0 in
          let t = all-at (part_marked s) (λ i. i) 0 (part_count_of s) j (and_right (a && b) c abc) (omega arith) (omega arith) in
          (eqb-true _ _ (and_left p q t), eqb-true _ _ (and_right p q t));
      text = eqb-true _ _ (and_right (a && b && c) d m);
    }

module _ (s : List ℕ) (bytes : AreBytes s) where
  -- the bytes of a number are those that it was read from
  number : (n at : ℕ) → at + n ≤ length s → bytes_of n (uint_at n s at) ≡ part s at n
  unfolding bytes_of uint_at part series
  number zero at l = refl
  number (suc n) at l =
      let low : (u8_at s at + 256 * uint_at n s (at + 1)) % 256 ≡ u8_at s at = omega (arith, bytes at) in
      let high : (u8_at s at + 256 * uint_at n s (at + 1)) / 256 ≡ uint_at n s (at + 1) = omega (arith, bytes at) in
      let one : series (u8_at s) at 1 ≡ part s at 1 = series-taken s at 1 (omega arith) in
      let more : 1 + n ≡ suc n = omega arith in
      rw (low, high) (rw more at (stretch-join s at 1 n one (number n (at + 1) (omega arith))))

  mark : (n at v : ℕ) → at + n ≤ length s → uint_at n s at ≡ v → bytes_of n v ≡ part s at n
  mark n at v l e = ap (bytes_of n) (sym e) ∙ number n at l

  module _ (is_whole : whole s ≡ true) where
    long : length s ≡ part_start (part_count_of s) + 2 + text_length_of s
    long = (whole-sized s is_whole).long

    codes : u8_at s 6 ∷ u8_at s 7 ∷ u8_at s 8 ∷ u8_at s 9 ∷ u8_at s 10 ∷ u8_at s 11 ∷ [] ≡ part s 6 6
    unfolding series part
    codes = series-taken s 6 6 (omega (arith, long))

    identifier : series (u8_at s) 16 16 ≡ part s 16 16
    unfolding part
    identifier = series-taken s 16 16 (omega (arith, long))

    head-encoded : encode_head (head_of s) ≡ part s 0 48
    unfolding encode_head
    head-encoded =
        let marks = whole-marked s is_whole in
        let codes-there = front-join s 6 6
        (front-join s 4 2
        (front-join s 2 2 (mark 2 0 report_mark (omega (arith, long)) marks.head) (number 2 2 (omega (arith, long))))
        (number 2 4 (omega (arith, long)))) codes in
        let identified = front-join s 16 16
        (front-join s 14 2 (front-join s 12 2 codes-there (number 2 12 (omega (arith, long)))) (number 2 14 (omega (arith, long))))
        identifier in
        let dated = front-join s 40 4
        (front-join s 36 4 (front-join s 32 4 identified (number 4 32 (omega (arith, long)))) (number 4 36 (omega (arith, long))))
        (number 4 40 (omega (arith, long))) in
        front-join s 46 2 (front-join s 44 2 dated (number 2 44 (omega (arith, long))))
        (mark 2 46 0 (omega (arith, long)) marks.no_bits)

    part-encoded : (j : ℕ) → j < part_count_of s → encode_part (part_at s j) ≡ part s (part_start j) 16
    part-encoded j l =
        let at = part_start j in
        let marks = (whole-marked s is_whole).parts j l in
        let end : at + 4 + 4 ≡ at + 8 = omega arith in
        let power : of_z w32 (to_z w32 (u32_at s (at + 12))) ≡ u32_at s (at + 12)
        = of_z-to_z w32 (u32_at s (at + 12)) (four-small s bytes (at + 12)) in
        rw (power, end)
        (stretch-join s at 12 4
        (stretch-join s at 8 4
        (stretch-join s at 4 4
        (stretch-join s at 2 2 (mark 2 at part_mark (omega (arith, long)) marks.0) (mark 2 (at + 2) 0 (omega (arith, long)) marks.1))
        (number 4 (at + 4) (omega (arith, long))))
        (number 4 (at + 8) (omega (arith, long))))
        (number 4 (at + 12) (omega (arith, long))))

    parts-encoded : (j n : ℕ) → j + n ≤ part_count_of s → encode_parts (series (part_at s) j n) ≡ part s (part_start j) (16 * n)
    unfolding encode_parts series part
    parts-encoded j zero l = refl
    parts-encoded j (suc n) l =
        let next : part_start (j + 1) ≡ part_start j + 16 = omega arith in
        let more : 16 + 16 * n ≡ 16 * suc n = omega arith in
        rw more at
        (stretch-join s (part_start j) 16 (16 * n) (part-encoded j (omega arith)) (rw next at (parts-encoded (j + 1) n (omega arith))))

    pub encoded : encode_report (head_of s) (parts_of s) (text_of s) ≡ s
    unfolding encode_report part
    encoded =
        let k = part_count_of s in
        let marks = whole-marked s is_whole in
        let size : 48 + 16 * k + 2 + text_length_of s ≡ length s = sym long in
        front-join s (48 + 16 * k + 2) (text_length_of s)
        (front-join s (48 + 16 * k) 2
        (front-join s 48 (16 * k) head-encoded (parts-encoded 0 k (omega arith)))
        (mark 2 (48 + 16 * k) text_mark (omega (arith, long)) marks.text))
        refl
        ∙ take_all (48 + 16 * k + 2 + text_length_of s) s (omega arith)
