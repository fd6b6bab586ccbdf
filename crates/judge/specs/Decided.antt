-- What is decided of a report before anything is written.
use Rattle.std.specs.Prelude.{ℕ, List, Bool, true, not, ◌||◌, eqb, map, Option, None, Result, Ok, Err, ⊤}
use Rattle.std.specs.List.{list_any, list_all}
use Rattle.std.specs.Option.{is_some}
use Rattle.fields.specs.Lists.{pick, series}
use Rattle.quantities.specs.declared.Minute.{Minute}
use Rattle.report.specs.declared.Head.{Head}
use Rattle.report.specs.Report.{head_of, parts_of}
use Rattle.rules.specs.declared.Record.{Record}
use Rattle.rules.specs.declared.Refusal.{Refusal}
use Rattle.rules.specs.declared.UnitHead.{UnitHead}
use Rattle.rules.specs.Codes.{create}
use Rattle.rules.specs.Block.{slot_count, slot_numbered}
use Rattle.rules.specs.Questions.{creation_head, changes_state, leaves, question10, question13, question14, question18}
use Rattle.rules.specs.Minutes.{question17}
use Rattle.rules.specs.After.{rewrites, slot_written, cleared, some_slot}
use Rattle.rules.specs.Judge.{must, part_beside, refusal_number}
use Rattle.levels.specs.Counted.{swept_records}
use Rattle.validation.specs.FirstNo.{◌then◌}
use Rattle.judge.specs.declared.Decision.{Decision}
use Rattle.judge.specs.declared.SlotAnswers.{SlotAnswers}
use Rattle.judge.specs.Survey.{survey_of, free_among}

-- the slot that is written
unfoldable pub written_by : Head → Option ℕ → Option ℕ → Option ℕ
written_by h slot free = pick (creation_head h) free (pick (rewrites h) slot None)

-- questions 10 to 14, of whether a live slot holds the identifier and of the record there
unfoldable pub holder_asked : Minute → Head → Bool → Record → Result ⊤ Refusal
holder_asked last h is_held held =
    must h 10 (question10 last h)
    then must h 11 (not (eqb h.operation.0 create) || not is_held)
    then must h 12 (eqb h.operation.0 create || is_held)
    then must h 13 (question13 h held)
    then must h 14 (question14 h held)

-- questions 15 to 19, of the slots as they were surveyed
unfoldable pub limits_asked : List ℕ → List ℕ → Head → UnitHead → List SlotAnswers → Bool → Bool → Result ⊤ Refusal
limits_asked b s h unit slots changes deratings =
    must h 15 (list_all (λ a. a.closed) slots)
    then must h 16 deratings
    then must h 17 (question17 unit.kind.0 unit.powers (swept_records b s (map (λ a. a.other) slots) true) h)
    then must h 18 (question18 changes unit.row h)
    then must h 19 (not (creation_head h) || is_some (free_among slots))

abbrev pub surveyed_decision : Head → Option ℕ → Bool → List SlotAnswers → Decision
surveyed_decision h slot changes slots = record {
  cleared = map (λ a. a.cleared) slots;
  written = written_by h slot (free_among slots);
  changes = changes;
  left = list_any (λ a. a.leaves) slots;
}

abbrev pub limits_by : List ℕ → List ℕ → Head → UnitHead → Option ℕ → Bool → Bool → List SlotAnswers → Result Decision Refusal
limits_by b s h unit slot changes deratings slots =
    limits_asked b s h unit slots changes deratings then Ok (surveyed_decision h slot changes slots)

abbrev pub limits_decided : List ℕ → List ℕ → Head → UnitHead → Option ℕ → Bool → Bool → Result Decision Refusal
limits_decided b s h unit slot changes deratings =
    limits_by b s h unit slot changes deratings (survey_of b h slot changes)

-- what an accepted report does
abbrev pub accepted_decision : List ℕ → List ℕ → Decision
accepted_decision b s = record {
  cleared = series (cleared b s) 0 slot_count;
  written = slot_numbered (slot_written b s);
  changes = changes_state b s;
  left = some_slot (leaves b s);
}

-- of a report on its unit's block: the first "no", and beside 8 the part
unfoldable pub decision_of : List ℕ → List ℕ → Result Decision Refusal
decision_of b s =
    pick (eqb (refusal_number b s) 0) (Ok (accepted_decision b s))
    (Err (record { number = refusal_number b s; part = part_beside (refusal_number b s) (head_of s) (parts_of s) }))
