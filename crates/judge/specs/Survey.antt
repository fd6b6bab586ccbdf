-- What is asked of the slots from question 15 on, of a report's head, the slot that holds its identifier and whether the state
-- changes.
use Rattle.std.specs.Prelude.{ℕ, List, Bool, not, ◌&&◌, ◌||◌, eqb, position, Option, Some, None}
use Rattle.fields.specs.Lists.{pick, series, seek}
use Rattle.report.specs.declared.Head.{Head}
use Rattle.rules.specs.declared.Record.{Record}
use Rattle.rules.specs.Codes.{change}
use Rattle.rules.specs.Records.{same_identifier, clashes, closes}
use Rattle.rules.specs.Block.{slot_count, is_slot, slot_at, used}
use Rattle.rules.specs.Questions.{record_by, record_at, live, must_leave, vacates}
use Rattle.judge.specs.declared.SlotAnswers.{SlotAnswers}

-- the record in slot i, if the slot is used
unfoldable pub used_record : List ℕ → ℕ → Option Record
used_record b i = pick (used (slot_at b i)) (Some (record_at b i)) None

-- the live slot that has the record's identifier, or 8
unfoldable pub holder_of : List ℕ → Record → ℕ
holder_of b r = seek (λ i. live b r.stamp.0 i && same_identifier r (record_at b i)) 0 slot_count

abbrev pub other_by : Head → Option ℕ → Bool → ℕ → Bool
other_by h slot is_live i = is_live && not (eqb h.operation.0 change && is_slot slot i)

abbrev pub leaves_by : Head → Option ℕ → Bool → Bool → Record → ℕ → Bool
leaves_by h slot changes is_live x i = other_by h slot is_live i && must_leave h changes x

abbrev pub stays_by : Head → Option ℕ → Bool → Bool → Record → ℕ → Bool
stays_by h slot changes is_live x i =
    is_live && not (leaves_by h slot changes is_live x i) && not (vacates h && is_slot slot i)

-- slot i, where x is its record
unfoldable pub slot_answers : Head → Option ℕ → Bool → Bool → Bool → Record → ℕ → SlotAnswers
slot_answers h slot changes is-used is_live x i = record {
  other = other_by h slot is_live i;
  closed = not (other_by h slot is_live i && clashes (record_by h) x) || closes (record_by h) x;
  leaves = leaves_by h slot changes is_live x i;
  stays = stays_by h slot changes is_live x i;
  cleared = is-used && not (stays_by h slot changes is_live x i);
}

unfoldable pub answers_at : List ℕ → Head → Option ℕ → Bool → ℕ → SlotAnswers
answers_at b h slot changes i =
    slot_answers h slot changes (used (slot_at b i)) (live b h.stamp.0 i) (record_at b i) i

unfoldable pub survey_of : List ℕ → Head → Option ℕ → Bool → List SlotAnswers
survey_of b h slot changes = series (answers_at b h slot changes) 0 slot_count

-- the lowest slot that does not keep its record
abbrev pub free_among : List SlotAnswers → Option ℕ
free_among slots = position (λ a. not a.stays) slots
