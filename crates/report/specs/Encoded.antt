-- A report's bytes from its decoded head, its parts and its text: `head_of` and `parts_of` the other way round.
use Rattle.std.specs.Prelude.{ℕ, List, [], ◌∷◌, ◌++◌}
use Rattle.std.specs.Int.{w32}
use Rattle.std.proofs.Common.{of_z}
use Rattle.fields.specs.Fields.{bytes_of}
use Rattle.report.specs.declared.Head.{Head}
use Rattle.report.specs.declared.Part.{Part}
use Rattle.report.specs.Report.{report_mark, part_mark, text_mark}

unfoldable pub encode_head : Head → List ℕ
encode_head h =
    bytes_of 2 report_mark ++ bytes_of 2 h.unit ++ bytes_of 2 h.owner
    ++ (h.record_type.0 ∷ h.operation.0 ∷ h.direction.0 ∷ h.start_mark.0 ∷ h.end_mark.0 ∷ h.qualification ∷ [])
    ++ bytes_of 2 h.ordinal ++ bytes_of 2 h.part_count ++ h.identifier ++ bytes_of 4 h.stamp.0
    ++ bytes_of 4 h.period.start.0 ++ bytes_of 4 h.period.end.0 ++ bytes_of 2 h.text_length ++ bytes_of 2 0

abbrev pub encode_part : Part → List ℕ
encode_part p =
    bytes_of 2 part_mark ++ bytes_of 2 0 ++ bytes_of 4 p.period.start.0 ++ bytes_of 4 p.period.end.0
    ++ bytes_of 4 (of_z w32 p.power.0)

unfoldable pub encode_parts : List Part → List ℕ
encode_parts [] = []
encode_parts (p ∷ ps) = encode_part p ++ encode_parts ps

unfoldable pub encode_report : Head → List Part → List ℕ → List ℕ
encode_report h ps text = encode_head h ++ encode_parts ps ++ bytes_of 2 text_mark ++ text
