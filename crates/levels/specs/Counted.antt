-- The records that count in a sweep: the reported one, or none, and the slots of a block that are marked.
use Rattle.std.specs.Prelude.{ℕ, List, ◌∷◌, Bool, false, get_or}
use Rattle.fields.specs.Lists.{pick}
use Rattle.report.specs.Report.{parts_of}
use Rattle.rules.specs.Block.{slot_count, slot_at, parts_in}
use Rattle.rules.specs.Questions.{record_of, record_at}
use Rattle.rules.specs.Minutes.{FullRecord, records_among}

abbrev pub report_record : List ℕ → FullRecord
report_record s = record { fields = record_of s; parts = parts_of s }

abbrev pub slot_record : List ℕ → ℕ → FullRecord
slot_record b i = record { fields = record_at b i; parts = parts_in (slot_at b i) }

abbrev pub counted_records : List ℕ → List Bool → List FullRecord
counted_records b counted = records_among b (λ i. get_or counted i false) 0 slot_count

unfoldable pub swept_records : List ℕ → List ℕ → List Bool → Bool → List FullRecord
swept_records b s counted with-report = pick with-report (report_record s ∷ counted_records b counted) (counted_records b counted)
