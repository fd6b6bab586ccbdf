-- What the reading needs of a report that has a form. Assumes nothing.
use Prim.Native.Nat.{ℕ, ◌<◌}
use mathlib.Core.Path.{◌≡◌, sym, ◌∙◌}
use mathlib.Core.Bool.{true}
use mathlib.Core.List.{List}
use mathlib.Core.Logic.{◌⊎◌, inl, inr, ⊎_elim}
use native.Mathlib.Omega.{arith}
use lib.Dec.{eqb}
use lib.ListN.{length}
use borrow.Author.Tests.{leb-true, eqb-true}
use Rattle.std.specs.Prelude.{Result, is_ok}
use Rattle.fields.specs.Fields.{u8_at}
use Rattle.fields.specs.Lists.{all}
use Rattle.fields.proofs.Bools.{every_true, pick-elim}
use Rattle.fields.proofs.Tests.{series-length}
use Rattle.fields.proofs.Slices.{part_length}
use Rattle.report.specs.declared.Broken.{Broken}
use Rattle.report.specs.Report.{head_of, part_at, parts_of, part_count_of, text_length_of, whole}
use Rattle.report.specs.Cover.{cover_of, no_parts}
use Rattle.report.specs.Remark.{text_start}
use Rattle.report.proofs.Covering.{covered-is}
use Rattle.report.proofs.Sizes.{whole-sized}
use Rattle.rules.specs.Records.{cover_by}
use Rattle.rules.specs.Questions.{question8}
use Rattle.forms.proofs.Formed.{formed}
use Rattle.forms.specs.Form.{text_of, printable, has_form}
use Rattle.forms.specs.Form.{AreBytes}
use Rattle.form_reading.proofs.Bytes.{series_bytes, two-small}
use Rattle.form_reading.proofs.Covered.{Link, linked}
use Rattle.form_reading.proofs.Heads.{InRange}

abbrev Covered : List ℕ → Type 0
Covered s = (part_count_of s ≡ 0) ⊎ (is_ok (cover_of (parts_of s) (head_of s).period) ≡ true)

covered : (s : List ℕ) → is_ok (question8 (head_of s) (parts_of s)) ≡ true → Covered s
unfolding question8 cover_by
covered s =
    let none : is_ok (no_parts (parts_of s)) ≡ true → Covered s =
    λ e.
    let empty = eqb-true _ _ (sym (covered-is (eqb (length (parts_of s)) 0) 0) ∙ e) in
    inl (sym (series-length (part_at s) 0 (part_count_of s)) ∙ empty) in
    let P : Result Unit Broken → Type 0 = λ c. is_ok c ≡ true → Covered s in
    pick-elim P _ (λ t. none) (λ t. pick-elim P _ (λ u e. inr e) (λ u. none))

pub links : (s : List ℕ) → has_form s ≡ true → (j : ℕ) → j < part_count_of s
    → Link (part_at s) (part_count_of s) (head_of s).period j
unfolding has_form
links s e j l =
    ⊎_elim
    (λ none. absurd (omega (arith, none)))
    (λ cover. linked (part_at s) (part_count_of s) (head_of s).period cover j l)
    (covered s (every_true _ e).1.1.0)

pub printed : (s : List ℕ) → has_form s ≡ true → all printable (text_of s) ≡ true
unfolding has_form
printed s e = (every_true _ e).1.1.1.1.1.0

pub text-length : (s : List ℕ) → whole s ≡ true → length (text_of s) ≡ text_length_of s
text-length s w =
    let sizes = whole-sized s w in
    part_length s (text_start s) (text_length_of s) (omega (arith, sizes.long))

pub in_range : (s : List ℕ) → AreBytes s → has_form s ≡ true → InRange (head_of s)
in_range s bytes e =
    let known = formed s e in
    record {
      unit = two-small s bytes 2;
      owner = two-small s bytes 4;
      record_type = bytes 6;
      operation = bytes 7;
      direction = bytes 8;
      start_mark = bytes 9;
      end_mark = bytes 10;
      qualification = bytes 11;
      ordinal = two-small s bytes 12;
      long = series-length (u8_at s) 16 16;
      bytes = series_bytes (u8_at s) 16 16 bytes;
      stamp = leb-true _ _ known.stamp;
      start = leb-true _ _ known.start;
      end = leb-true _ _ known.end;
    }
