-- The puts of a report's fields as one put, and what is read of it. Assumes nothing.
use Prim.Native.Nat.{ℕ, ◌-◌, ◌≤◌}
use mathlib.Core.Path.{◌≡◌, refl}
use mathlib.Core.Bool.{Bool, true, false}
use mathlib.Core.List.{List, []}
use native.Mathlib.Omega.{arith}
use lib.ListN.{length, take}
use Rattle.std.specs.Prelude.{Option, Some, None}
use Rattle.fields.specs.Fields.{bytes_of}
use Rattle.fields.specs.Lists.{pick, part, put}
use Rattle.fields.proofs.Slices.{part-put as put_read}
use Rattle.report.specs.Report.{text_mark, text_after}
use Rattle.report.specs.Encoded.{encode_head, encode_part, encode_parts, encode_report}
use Rattle.rules.specs.Codes.{is_levelled}
use Rattle.sent_reports.specs.declared.Sent.{Sent}
use Rattle.sent_reports.specs.declared.Step.{Step}
use Rattle.sent_reports.specs.Sent.{length_sent, step_parts, part_sent, levels_sent, head_sent, report_sent}
use Rattle.sent_reports.proofs.Puts.{put_on}

pub one_put : (s : List ℕ) (x : Sent)
    → put s 48 (encode_part (part_sent x.start x.end x.power)) ≡ put s 48 (encode_parts (levels_sent x None))
unfolding bytes_of encode_parts
one_put s x = refl

pub two_put : (s : List ℕ) (x : Sent) (step : Step)
    → put (put s 48 (encode_part (part_sent x.start step.at x.power))) 64 (encode_part (part_sent step.at x.end step.power))
    ≡ put s 48 (encode_parts (levels_sent x (Some step)))
unfolding bytes_of encode_parts
two_put s x step = put_on s 48 (encode_part (part_sent x.start step.at x.power)) _ refl

module _ (s : List ℕ) (x : Sent) where
  pub whole_put : (b : Bool) (step : Option Step)
      → put (put (put s 0 (encode_head (head_sent x))) 48 (encode_parts (pick b (levels_sent x step) [])))
      (text_after (pick b (step_parts step) 0) - 2) (bytes_of 2 text_mark)
      ≡ put s 0 (encode_report (head_sent x) (pick b (levels_sent x step) []) [])
  unfolding pick bytes_of encode_head encode_parts encode_report
  whole_put true None = put_on s 0 _ _ (put_on s 0 (encode_head (head_sent x)) _ refl)
  whole_put true (Some step) = put_on s 0 _ _ (put_on s 0 (encode_head (head_sent x)) _ refl)
  whole_put false None = put_on s 0 _ _ (put_on s 0 (encode_head (head_sent x)) [] refl)
  whole_put false (Some step) = put_on s 0 _ _ (put_on s 0 (encode_head (head_sent x)) [] refl)

lengths : (x : Sent) (b : Bool) (step : Option Step)
    → (length (encode_report (head_sent x) (pick b (levels_sent x step) []) []) ≡ text_after (pick b (step_parts step) 0))
    × (text_after (pick b (step_parts step) 0) ≤ 82)
unfolding pick bytes_of encode_head encode_parts encode_report
lengths x true None = (refl, omega arith)
lengths x true (Some step) = (refl, omega arith)
lengths x false None = (refl, omega arith)
lengths x false (Some step) = (refl, omega arith)

-- where there is room, what was put is the report
pub report_read : (s : List ℕ) (x : Sent) → 82 ≤ length s → take (length_sent x) (put s 0 (report_sent x)) ≡ report_sent x
unfolding report_sent part
report_read s x room =
    let ends = lengths x (is_levelled x.record_type.0) x.step in
    rw (← ends.0) (put_read s 0 (report_sent x) (rw ends.0 (omega arith)))
