-- What one pass over a report's parts answers; what validation gives.
use Rattle.std.specs.Prelude.{ℕ, List, [], ◌∷◌, Bool, not, ◌&&◌, ◌||◌, leb, ltb, eqb, pos, Result, Ok, Err, ⊤}
use Rattle.fields.specs.Lists.{pick, every, all}
use Rattle.quantities.specs.declared.Kilowatt.{Kilowatt}
use Rattle.quantities.specs.declared.Minute.{Minute}
use Rattle.report.specs.declared.Head.{Head}
use Rattle.report.specs.declared.Part.{Part}
use Rattle.report.specs.declared.Broken.{Broken}
use Rattle.rules.specs.declared.PowerRange.{PowerRange}
use Rattle.rules.specs.declared.Refusal.{Refusal}
use Rattle.rules.specs.declared.UnitHead.{UnitHead}
use Rattle.rules.specs.Codes.{off_grid}
use Rattle.rules.specs.Records.{part_times, powers_in_range, kind_allows, begun}
use Rattle.rules.specs.Questions.{record_by, event_head, quarter_hour, part_on_quarter, derating_fits, question4, question6, question8, question16}
use Rattle.rules.specs.Judge.{must, validation_number}
use Rattle.validation.specs.declared.PartAnswers.{PartAnswers}
use Rattle.validation.specs.declared.Validated.{Validated}
use Rattle.validation.specs.FirstNo.{◌then◌, outcome}

-- question 16 reads of a part the size of its power alone
abbrev pub part_of_size : Kilowatt → Part
part_of_size size = record {
  period = record { start = record { 0 = 0 }; end = record { 0 = 0 } };
  power = record { 0 = pos size.0 };
}

unfoldable pub answers_of : List Part → Minute → PowerRange → ℕ → PartAnswers
answers_of ps stamp range type = record {
  times = all part_times ps;
  on_quarters = all (part_on_quarter stamp) ps;
  powers = powers_in_range ps;
  deratings = all (derating_fits range type) ps;
}

-- question 6: "Event: mark 2, start ≤ stamp, end = start."
abbrev pub event_times : Head → Bool
event_times h =
    every (begun (record_by h) ∷ leb h.period.start.0 h.stamp.0 ∷ eqb h.period.end.0 h.period.start.0 ∷ [])

-- question 6: "Types 1–5: start < end, end > stamp; mark 1 with start > stamp, mark 2 with start ≤ stamp; type 5 needs mark 2."
abbrev pub record_times : Head → Bool
record_times h =
    every
    (ltb h.period.start.0 h.period.end.0
    ∷ ltb h.stamp.0 h.period.end.0
    ∷ pick (begun (record_by h)) (leb h.period.start.0 h.stamp.0) (ltb h.stamp.0 h.period.start.0)
    ∷ (not (eqb h.record_type.0 off_grid) || begun (record_by h))
    ∷ [])

-- question 7, but for the parts
abbrev pub head_on_quarters : Head → Bool
head_on_quarters h = quarter_hour h.period.end && (begun (record_by h) || quarter_hour h.period.start)

-- question 8, and beside its "no" the part that cover names
abbrev pub refused_by : Result ⊤ Broken → Result ⊤ Refusal
refused_by (Ok _) = Ok tt
refused_by (Err broken) = Err (record { number = 8; part = broken.part })

abbrev pub cover_asked : Head → List Part → Result ⊤ Refusal
cover_asked h ps = refused_by (question8 h ps)

-- questions 4 to 9 as code asks them, of what was answered of each part
unfoldable pub validation_asked : ℕ → Head → List Part → PartAnswers → Result ⊤ Refusal
validation_asked kind h ps parts =
    must h 4 (question4 h [] && parts.times)
    then must h 5 (kind_allows kind (record_by h))
    then must h 6 (question6 h)
    then must h 7 (event_head h || head_on_quarters h && parts.on_quarters)
    then cover_asked h ps
    then must h 9 parts.powers

-- the first "no" of questions 4 to 9 with the part that stands beside it, if there is one; and what question 16 is answered
abbrev pub validated_of : UnitHead → Head → List Part → Validated
validated_of unit h ps = record {
  passed = outcome h ps (validation_number unit.kind.0 h ps 0) tt;
  deratings = question16 unit.powers h ps;
}
