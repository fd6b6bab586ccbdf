-- The report that a form's lines give is decoded to what they gave. Assumes nothing.
use Prim.Native.Nat.{ℕ, zero, suc, ◌+◌, ◌-◌, ◌*◌, ◌≤◌, ◌<◌}
use mathlib.Core.Path.{◌≡◌, refl, ap, sym, ◌∙◌}
use mathlib.Core.List.{List, [], ◌++◌, append_assoc}
use native.Mathlib.Omega.{arith}
use native.Mathlib.Nat.{zero-add}
use lib.ListN.{drop}
use lib.Seq.{drop-drop, drop_at}
use mir.Syntax.{w32}
use mir.Val.{to_z, of_z}
use Rattle.std.proofs.lemmas.Int.{of_z-to_z}
use Rattle.fields.specs.Fields.{u32_at, bytes_of}
use Rattle.fields.specs.Lists.{part, series}
use Rattle.fields.proofs.Numbers.{uint-found}
use Rattle.fields.proofs.Bools.{pick-elim}
use Rattle.fields.proofs.Tests.{series-length}
use borrow.Author.Tests.{leb-true}
use Rattle.quantities.specs.declared.Minute.{Minute}
use Rattle.quantities.specs.Quantities.{last_minute}
use Rattle.calendar.specs.declared.DateError.{DateError}
use Rattle.calendar.specs.Reading.{date_read, printed_minute, read_minute, no_minute}
use lib.Dec.{leb}
use Rattle.std.specs.Prelude.{Result}
use Rattle.forms.specs.Form.{text_of}
use Rattle.form_reading.specs.declared.Numeral.{Numeral}
use Rattle.form_reading.specs.declared.Lines.{Lines}
use Rattle.form_reading.specs.Reading.{number_at, power_at, minute_or_0, date_at, hex_byte, code_lines_in, mark_lines_in, date_lines_in, point_in, point_at, part_in, parts_in, grid_of, lines_in, report_by, report_of}
use Rattle.report.specs.declared.Head.{Head}
use Rattle.report.specs.declared.Part.{Part}
use Rattle.report.specs.Report.{text_mark, part_start, part_count_of, head_of, part_at, parts_of}
use Rattle.report.specs.Encoded.{encode_head, encode_part, encode_parts, encode_report}
use Rattle.form_reading.proofs.ReadBytes.{head-long, text-there, count-there, part-most, few, short, identified}
use Rattle.report.proofs.Encoding.{Small, named, head-back}

-- a part whose times fit their bytes, with a power of 32 bits
pub record PartFits (p : Part) (bits : ℕ) : Type 0 where
  pub start : p.period.start.0 < 4294967296
  pub end : p.period.end.0 < 4294967296
  pub power : p.power.0 ≡ to_z w32 bits
  pub small : bits < 4294967296

module _ (f : ℕ → Part) where
  abbrev parts-after : (i j n : ℕ) → List ℕ → List ℕ
  parts-after i j n tail = encode_parts (series f (i + j + 1) (n - (j + 1))) ++ tail

  parts-from : (i j n : ℕ) (tail : List ℕ) → j < n
      → drop (16 * j) (encode_parts (series f i n) ++ tail) ≡ encode_part (f (i + j)) ++ parts-after i j n tail
  unfolding encode_parts series bytes_of
  parts-from i j zero tail l = absurd (omega arith)
  parts-from i zero (suc n) tail l =
      let z : i + 0 ≡ i = omega arith in
      let m : suc n - 1 ≡ n = omega arith in
      rw (z, m) (append_assoc (encode_part (f i)) (encode_parts (series f (i + 1) n)) tail)
  parts-from i (suc j) (suc n) tail l =
      let z : i + suc j ≡ i + 1 + j = omega arith in
      let m : suc n - (suc j + 1) ≡ n - (j + 1) = omega arith in
      let s : 16 * suc j ≡ 16 + 16 * j = omega arith in
      rw (z, m, s, ← drop-drop (16 * j) 16 (encode_part (f i) ++ encode_parts (series f (i + 1) n) ++ tail)) (parts-from (i + 1) j n tail (omega arith))

-- a report of k parts
module _ (h : Head) (f : ℕ → ℕ) (parts : ℕ → Part) (k : ℕ) (text : List ℕ) where
  abbrev report : List ℕ
  report = encode_report (named h f) (series parts 0 k) text

  abbrev tail : List ℕ
  tail = bytes_of 2 text_mark ++ text

  part-there : (j : ℕ) → j < k → drop (part_start j) report ≡ encode_part (parts j) ++ (encode_parts (series parts (j + 1) (k - (j + 1))) ++ tail)
  unfolding encode_report
  part-there j l =
      let head = encode_head (named h f) in
      let ps = encode_parts (series parts 0 k) in
      let shape : report ≡ head ++ (ps ++ tail) = append_assoc (head ++ ps) (bytes_of 2 text_mark) text ∙ append_assoc head ps tail in
      rw shape (sym (drop-drop (16 * j) 48 (head ++ (ps ++ tail))) ∙ rw (drop_at head (ps ++ tail) 48 (head-long h f [] [])) (parts-from parts 0 j k tail l ∙ ap (λ (i : ℕ). encode_part (parts i) ++ (encode_parts (series parts (i + 1) (k - (j + 1))) ++ tail)) (zero-add j)))

  part-back : (bits : ℕ → ℕ) (j : ℕ) → j < k → PartFits (parts j) (bits j) → part_at report j ≡ parts j
  unfolding bytes_of
  part-back bits j l fits =
      let p = parts j in
      let at = part_start j in
      let eight : at + 8 ≡ at + 4 + 4 = omega arith in
      let there = part-there j l in
      let start : u32_at report (at + 4) ≡ p.period.start.0
      = uint-found 4 report (at + 4) p.period.start.0 _ (sym (drop-drop 4 at report) ∙ ap (drop 4) there) fits.start in
      let end : u32_at report (at + 8) ≡ p.period.end.0
      = uint-found 4 report (at + 8) p.period.end.0 _ (sym (drop-drop 8 at report) ∙ ap (drop 8) there) fits.end in
      let coded : of_z w32 p.power.0 ≡ bits j = ap (of_z w32) fits.power ∙ of_z-to_z w32 (bits j) fits.small in
      let small : of_z w32 p.power.0 < 4294967296 = rw coded fits.small in
      let power : u32_at report (at + 12) ≡ of_z w32 p.power.0
      = uint-found 4 report (at + 12) (of_z w32 p.power.0) _ (sym (drop-drop 12 at report) ∙ ap (drop 12) there) small in
      rw (start, rw eight at end, ap (to_z w32) (power ∙ coded) ∙ sym fits.power)

  pub parts-back : (bits : ℕ → ℕ) (i n : ℕ) → i + n ≤ k → ((j : ℕ) → j < k → PartFits (parts j) (bits j))
      → series (part_at report) i n ≡ series parts i n
  unfolding series
  parts-back bits i zero l fits = refl
  parts-back bits i (suc n) l fits =
      rw (part-back bits i (omega arith) (fits i (omega arith)), parts-back bits (i + 1) n (omega arith) fits)

-- what is read fits
date-most : (s : List ℕ) (at : ℕ) → (date_at s at).0 ≤ last_minute
unfolding date_read
date-most s at =
    pick-elim (λ (r : Result Minute DateError). (minute_or_0 r).0 ≤ last_minute)
    (leb (printed_minute (part s at 16)) last_minute) {a = read_minute (printed_minute (part s at 16))} {b = no_minute}
    (λ e. leb-true (printed_minute (part s at 16)) last_minute e) (λ e. omega arith)

pub power-small : (s : List ℕ) (at : ℕ) → (power_at s at).value < 4294967296
unfolding power_at
power-small s at = pick-elim (λ (n : Numeral). n.value < 4294967296) _ (λ e. omega arith) (λ e. omega arith)

module _ (form : List ℕ) where
  abbrev l : Lines
  l = lines_in form

  abbrev parts : ℕ → Part
  parts j = part_in form (grid_of l) (point_at form l.points_at j)

  abbrev bits : ℕ → ℕ
  bits j = (power_at form ((number_at form (point_at form l.points_at j + 6)).next + 1)).value

  small : Small l.head
  unfolding lines_in code_lines_in mark_lines_in date_lines_in
  small = record {
    unit = omega arith;
    owner = omega arith;
    ordinal = omega arith;
    parts = omega (arith, few form);
    stamp = omega (arith, date-most form ((mark_lines_in form (code_lines_in form).next).next + 6));
    start = omega (arith, date-most form ((mark_lines_in form (code_lines_in form).next).next + 29));
    end = omega (arith, date-most form ((mark_lines_in form (code_lines_in form).next).next + 50));
    text = omega (arith, short form);
  }

  part-fits : (j : ℕ) → PartFits (parts j) (bits j)
  unfolding point_in
  part-fits j = record {
    start = omega arith;
    end = pick-elim (λ (m : Minute). m.0 < 4294967296) _ (λ e. omega arith) (λ e. small.end);
    power = refl;
    small = power-small form _;
  }

  abbrev text : List ℕ
  text = part form l.text_at l.head.text_length

  abbrev identifier : ℕ → ℕ
  identifier = hex_byte form (identified form).0

  same-report : report_of form ≡ report l.head identifier parts l.head.part_count text
  unfolding report_by
  same-report = ap (λ (h : Head). encode_report h (series parts 0 l.head.part_count) text) (identified form).1

  pub head-decoded : head_of (report_of form) ≡ l.head
  head-decoded =
      ap head_of same-report ∙ head-back l.head identifier (series parts 0 l.head.part_count) text small ∙ sym (identified form).1

  pub parts-decoded : parts_of (report_of form) ≡ parts_in form (grid_of l) l.points_at l.head.part_count
  parts-decoded =
      let k = l.head.part_count in
      let r = report l.head identifier parts k text in
      let count : part_count_of r ≡ k = count-there l.head identifier (series parts 0 k) text (omega (arith, few form)) in
      ap parts_of same-report ∙ ap (series (part_at r) 0) count
      ∙ parts-back l.head identifier parts k text bits 0 k (omega arith) (λ j _. part-fits j)

  pub text-decoded : text_of (report_of form) ≡ text
  text-decoded =
      let k = l.head.part_count in
      let most = part-most form l.text_at l.head.text_length in
      ap text_of same-report
      ∙ text-there l.head identifier (series parts 0 k) text (sym (series-length parts 0 k)) (omega (arith, few form)) most (omega (arith, short form))
