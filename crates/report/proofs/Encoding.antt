-- The head that a report was encoded from is the one that it is decoded to. Assumes nothing.
use Prim.Native.Nat.{ℕ, ◌<◌}
use mathlib.Core.Path.{◌≡◌, refl}
use mathlib.Core.List.{List}
use Rattle.fields.specs.Lists.{series}
use Rattle.fields.specs.Fields.{bytes_of}
use Rattle.fields.proofs.Numbers.{uint-found}
use Rattle.report.specs.declared.Head.{Head}
use Rattle.report.specs.declared.Part.{Part}
use Rattle.report.specs.Report.{head_of}
use Rattle.report.specs.Encoded.{encode_head, encode_report}

-- fields that fit their bytes
pub record Small (h : Head) : Type 0 where
  pub unit : h.unit < 65536
  pub owner : h.owner < 65536
  pub ordinal : h.ordinal < 65536
  pub parts : h.part_count < 65536
  pub stamp : h.stamp.0 < 4294967296
  pub start : h.period.start.0 < 4294967296
  pub end : h.period.end.0 < 4294967296
  pub text : h.text_length < 65536

-- the head, with an identifier of 16 bytes
abbrev pub named : Head → (ℕ → ℕ) → Head
named h f = record {
  unit = h.unit;
  owner = h.owner;
  record_type = h.record_type;
  operation = h.operation;
  direction = h.direction;
  start_mark = h.start_mark;
  end_mark = h.end_mark;
  qualification = h.qualification;
  ordinal = h.ordinal;
  part_count = h.part_count;
  identifier = series f 0 16;
  stamp = h.stamp;
  period = h.period;
  text_length = h.text_length;
}

module _ (h : Head) (f : ℕ → ℕ) (ps : List Part) (text : List ℕ) (small : Small h) where
  abbrev encoded : List ℕ
  encoded = encode_report (named h f) ps text

  pub head-back : head_of encoded ≡ named h f
  unfolding encode_report encode_head bytes_of series
  head-back =
      rw (
        uint-found 2 encoded 2 h.unit _ refl small.unit,
        uint-found 2 encoded 4 h.owner _ refl small.owner,
        uint-found 2 encoded 12 h.ordinal _ refl small.ordinal,
        uint-found 2 encoded 14 h.part_count _ refl small.parts,
        uint-found 4 encoded 32 h.stamp.0 _ refl small.stamp,
        uint-found 4 encoded 36 h.period.start.0 _ refl small.start,
        uint-found 4 encoded 40 h.period.end.0 _ refl small.end,
        uint-found 2 encoded 44 h.text_length _ refl small.text,
      )
