-- What a form's lines give is made of bytes, where it has a form. Assumes nothing.
use Prim.Native.Nat.{ℕ, ◌+◌, ◌*◌, ◌≤◌, ◌<◌}
use mathlib.Core.Path.{◌≡◌, refl, ap, sym, ◌∙◌}
use mathlib.Core.Bool.{true}
use mathlib.Core.List.{List, [], ◌∷◌, ◌++◌}
use native.Mathlib.Omega.{arith}
use lib.ListN.{length, length-append, length-take}
use lib.Seq.{take_all, drop_at}
use Rattle.fields.specs.Lists.{part, all, series}
use Rattle.fields.specs.Fields.{bytes_of}
use Rattle.fields.proofs.Tests.{series-length, seek-most}
use Rattle.fields.proofs.Numbers.{bytes-length, uint-found}
use Rattle.report.specs.declared.Head.{Head}
use Rattle.report.specs.declared.Part.{Part}
use Rattle.report.specs.Report.{text_mark, most_parts, most_text, part_count_of, text_length_of}
use Rattle.report.specs.Encoded.{encode_head, encode_part, encode_parts, encode_report}
use Rattle.report.proofs.Encoding.{named}
use Rattle.forms.specs.Form.{text_of, printable, has_form}
use Rattle.form_reading.specs.Reading.{hex_byte, code_lines_in, mark_lines_in, point_count, parts_in, lines_in, grid_of, report_by, report_of}
use Rattle.forms.specs.Form.{AreBytes}
use Rattle.form_reading.proofs.Reports.{printed}
use Rattle.form_reading.proofs.Bytes.{no_bytes, byte_first, bytes_append, number_bytes, series_bytes, printed_bytes}

-- the one-byte fields of a head
record Codes (h : Head) : Type 0 where
  record_type : h.record_type.0 < 256
  operation : h.operation.0 < 256
  direction : h.direction.0 < 256
  start_mark : h.start_mark.0 < 256
  end_mark : h.end_mark.0 < 256
  qualification : h.qualification < 256

parts-bytes : (ps : List Part) → AreBytes (encode_parts ps)
unfolding encode_parts
parts-bytes [] = no_bytes
parts-bytes (p ∷ ps) =
    bytes_append (encode_part p) (encode_parts ps) (search (bytes_append, number_bytes) depth 10) (parts-bytes ps)

parts-long : (ps : List Part) → length (encode_parts ps) ≡ 16 * length ps
unfolding encode_parts bytes_of
parts-long [] = refl
parts-long (p ∷ ps) = omega (arith, parts-long ps)

module _ (h : Head) (f : ℕ → ℕ) (ps : List Part) (text : List ℕ) where
  abbrev encoded : List ℕ
  encoded = encode_report (named h f) ps text

  abbrev front : List ℕ
  front = encode_head (named h f) ++ encode_parts ps ++ bytes_of 2 text_mark

  pub head-long : length (encode_head (named h f)) ≡ 48
  unfolding encode_head bytes_of series
  head-long = refl

  front-long : length front ≡ 50 + 16 * length ps
  front-long =
      length-append (encode_head (named h f) ++ encode_parts ps) (bytes_of 2 text_mark)
      ∙ rw (length-append (encode_head (named h f)), head-long, parts-long ps, bytes-length 2 text_mark) (omega arith)

  pub count-there : h.part_count < 65536 → part_count_of encoded ≡ h.part_count
  unfolding encode_report encode_head bytes_of series
  count-there few = uint-found 2 encoded 14 h.part_count _ refl few

  length-there : h.text_length < 65536 → text_length_of encoded ≡ h.text_length
  unfolding encode_report encode_head bytes_of series
  length-there short = uint-found 2 encoded 44 h.text_length _ refl short

  pub text-there : h.part_count ≡ length ps → h.part_count < 65536 → length text ≤ h.text_length → h.text_length < 65536
      → text_of encoded ≡ text
  unfolding encode_report part
  text-there counted few most short =
      let long : length front ≡ 48 + 16 * h.part_count + 2 = rw (front-long, counted) (omega arith) in
      rw (count-there few, length-there short, drop_at front text (48 + 16 * h.part_count + 2) long)
      (take_all h.text_length text most)

  encoded-bytes : Codes h → ((j : ℕ) → f j < 256) → AreBytes text → AreBytes encoded
  unfolding encode_report encode_head
  encoded-bytes codes identifier text_bytes =
      search (bytes_append, byte_first, no_bytes, number_bytes, series_bytes, parts-bytes) depth 20

pub part-most : (s : List ℕ) (at n : ℕ) → length (part s at n) ≤ n
unfolding part
part-most s at n = simp length-take (omega arith)

module _ (form : List ℕ) where
  codes : Codes (lines_in form).head
  unfolding lines_in code_lines_in mark_lines_in
  codes = record {
    record_type = omega arith;
    operation = omega arith;
    direction = omega arith;
    start_mark = omega arith;
    end_mark = omega arith;
    qualification = omega arith;
  }

  pub few : (lines_in form).head.part_count ≤ most_parts
  unfolding lines_in point_count
  few = seek-most _ 0 most_parts

  pub short : (lines_in form).head.text_length ≤ most_text
  unfolding lines_in
  short = omega arith

  -- the identifier is read byte by byte, from some place on
  pub identified : (at : ℕ) × ((lines_in form).head ≡ named (lines_in form).head (hex_byte form at))
  unfolding lines_in mark_lines_in
  identified = (_, refl)

  pub report-bytes : has_form (report_of form) ≡ true → AreBytes (report_of form)
  unfolding report_by
  report-bytes has =
      let h = (lines_in form).head in
      let f = hex_byte form identified.0 in
      let ps = parts_in form (grid_of (lines_in form)) (lines_in form).points_at h.part_count in
      let text = part form (lines_in form).text_at h.text_length in
      let same : report_of form ≡ encoded h f ps text = ap (λ (x : Head). encode_report x ps text) identified.1 in
      let counted : h.part_count ≡ length ps = sym (series-length _ 0 h.part_count) in
      let most : length text ≤ h.text_length = part-most form (lines_in form).text_at h.text_length in
      let there = text-there h f ps text counted (omega (arith, few)) most (omega (arith, short)) in
      let same_text : text_of (report_of form) ≡ text = ap text_of same ∙ there in
      let ascii = sym (ap (all printable) same_text) ∙ printed (report_of form) has in
      rw same (encoded-bytes h f ps text codes (λ j. omega arith) (printed_bytes text ascii))
