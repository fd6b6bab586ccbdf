-- What is decided of decoded values is what paper 01 decides of the block and the report. Assumes nothing.
use Prim.Native.Nat.{ℕ, zero, suc, ◌+◌, ◌≤◌, ◌<◌}
use mathlib.Core.Path.{◌≡◌, refl, ap, sym, ◌∙◌}
use mathlib.Core.Bool.{Bool, true, false, not}
use mathlib.Core.List.{List, [], ◌∷◌}
use native.Mathlib.Omega.{arith}
use lib.Dec.{ltb}
use borrow.Author.Tests.{ltb-false}
use Rattle.std.specs.Prelude.{Option, Result, Ok, map, position, ⊤}
use Rattle.std.specs.List.{list_any, list_all}
use Rattle.std.specs.Option.{is_some, unwrap_or}
use Rattle.fields.specs.Lists.{pick, all, series, seek}
use Rattle.fields.proofs.Tests.{seek-most}
use Rattle.quantities.specs.declared.Minute.{Minute}
use Rattle.report.specs.declared.Head.{Head}
use Rattle.report.specs.declared.Part.{Part}
use Rattle.report.specs.Report.{head_of, parts_of}
use Rattle.rules.specs.declared.Record.{Record}
use Rattle.rules.specs.declared.Refusal.{Refusal}
use Rattle.rules.specs.declared.UnitHead.{UnitHead}
use Rattle.rules.specs.Block.{slot_count, slot_numbered, unit_head}
use Rattle.rules.specs.Questions.{creation_head, record_by, record_at, holder, held_record, other, leaves, stays, clash_closed, free_slot, changes_by, changes_state, question15, question16, question18, question19}
use Rattle.rules.specs.Minutes.{records_among, reported_records, question17}
use Rattle.rules.specs.After.{rewrites, slot_written, cleared, some_slot}
use Rattle.rules.specs.Judge.{must, validation_number, held_number, limit_number, refusal_number}
use Rattle.rules.proofs.Slots.{numbered}
use Rattle.levels.specs.Counted.{swept_records}
use Rattle.judge.proofs.Ranges.{range-any}
use Rattle.validation.proofs.InOrder.{then_assoc, link, stage}
use Rattle.validation.specs.declared.Validated.{Validated}
use Rattle.validation.specs.FirstNo.{◌then◌, outcome}
use Rattle.validation.specs.Parts.{validated_of}
use Rattle.judge.specs.declared.SlotAnswers.{SlotAnswers}
use Rattle.judge.specs.Survey.{holder_of, slot_answers, answers_at, survey_of, free_among}
use Rattle.judge.specs.Decided.{written_by, holder_asked, limits_asked, limits_by, limits_decided, surveyed_decision, accepted_decision, decision_of}

-- questions 10 to 14, and 15 to 19, asked by number and as code asks them
module _ (h : Head) (ps : List Part) {A : Type 0} (value : A) where
  held-in-order : (last : Minute) (slot : ℕ) (held : Record) (next : ℕ) → outcome h ps (held_number last h slot held next) value
      ≡ (holder_asked last h (ltb slot slot_count) held then outcome h ps next value)
  unfolding held_number holder_asked
  held-in-order last slot held next =
      link h ps value 9 _ _ refl (link h ps value 10 _ _ refl (link h ps value 11 _ _ refl (link h ps value 12 _ _ refl
      (link h ps value 13 _ _ refl refl))))
      ∙ sym (simp then_assoc)

  limits-in-order : (q15 q16 q17 q18 q19 : Bool) → outcome h ps (limit_number h q15 q16 q17 q18 q19 0) value
      ≡ (must h 15 q15 then must h 16 q16 then must h 17 q17 then must h 18 q18 then must h 19 q19 then Ok value)
  unfolding limit_number outcome pick
  limits-in-order q15 q16 q17 q18 q19 =
      link h ps value 14 _ _ refl (link h ps value 15 _ _ refl (link h ps value 16 _ _ refl (link h ps value 17 _ _ refl
      (link h ps value 18 _ _ refl refl))))

-- the slots of the block and the report
series-same : {A : Type 0} (f g : ℕ → A) (i n : ℕ) → ((j : ℕ) → j < i + n → f j ≡ g j) → series f i n ≡ series g i n
unfolding series
series-same f g i zero h = refl
series-same f g i (suc n) h = rw (h i (omega arith), series-same f g (i + 1) n (λ j l. h j (omega arith)))

-- the first that passes
first-of : (a b c d e f g h : Bool) → position (λ t. t) (a ∷ b ∷ c ∷ d ∷ e ∷ f ∷ g ∷ h ∷ [])
    ≡ slot_numbered (pick a 0 (pick b 1 (pick c 2 (pick d 3 (pick e 4 (pick f 5 (pick g 6 (pick h 7 8))))))))
unfolding pick
first-of true b c d e f g h = refl
first-of false true c d e f g h = refl
first-of false false true d e f g h = refl
first-of false false false true e f g h = refl
first-of false false false false true f g h = refl
first-of false false false false false true g h = refl
first-of false false false false false false true h = refl
first-of false false false false false false false true = refl
first-of false false false false false false false false = refl

there-is : (n : ℕ) → is_some (slot_numbered n) ≡ ltb n slot_count
unfolding pick
there-is n = by-case (ltb n slot_count) refl where
  by-case : (t : Bool) → ltb n slot_count ≡ t → is_some (slot_numbered n) ≡ ltb n slot_count
  by-case true e = rw e
  by-case false e = rw e

number-back : (n : ℕ) → n ≤ slot_count → unwrap_or (slot_numbered n) slot_count ≡ n
unfolding pick
number-back n most = by-case (ltb n slot_count) refl where
  by-case : (t : Bool) → ltb n slot_count ≡ t → unwrap_or (slot_numbered n) slot_count ≡ n
  by-case true e = rw e
  by-case false e =
      let past = ltb-false n slot_count e in
      let last : slot_count ≡ n = omega arith in
      rw e last

picked : (t : Bool) (m n : ℕ) → slot_numbered (pick t m n) ≡ pick t (slot_numbered m) (slot_numbered n)
unfolding pick
picked true m n = refl
picked false m n = refl

module _ (b s : List ℕ) where
  -- of slot i, by the questions
  abbrev answered : ℕ → SlotAnswers
  answered i = record {
    other = other b s i;
    closed = clash_closed b s i;
    leaves = leaves b s i;
    stays = stays b s i;
    cleared = cleared b s i;
  }

  surveyed : survey_of b (head_of s) (slot_numbered (holder b s)) (changes_state b s) ≡ series answered 0 slot_count
  unfolding survey_of answers_at slot_answers other leaves stays
  surveyed = series-same _ answered 0 slot_count (λ j l. rw (numbered j (holder b s) (omega arith)))

  closed-is : list_all (λ a. a.closed) (series answered 0 slot_count) ≡ question15 b s
  unfolding question15 series all
  closed-is = refl

  free-is : free_among (series answered 0 slot_count) ≡ slot_numbered (free_slot b s)
  unfolding free_slot series seek
  free-is = first-of (not (stays b s 0)) (not (stays b s 1)) (not (stays b s 2)) (not (stays b s 3)) (not (stays b s 4))
      (not (stays b s 5)) (not (stays b s 6)) (not (stays b s 7))

  left_is : list_any (λ a. a.leaves) (series answered 0 slot_count) ≡ some_slot (leaves b s)
  unfolding some_slot series
  left_is = range-any (leaves b s) 0 slot_count

  others_are : map (λ a. a.other) (series answered 0 slot_count) ≡ series (other b s) 0 slot_count
  unfolding series
  others_are = refl

  cleared_are : map (λ a. a.cleared) (series answered 0 slot_count) ≡ series (cleared b s) 0 slot_count
  unfolding series
  cleared_are = refl

  swept-is : swept_records b s (series (other b s) 0 slot_count) true ≡ reported_records b s
  unfolding swept_records reported_records records_among series pick
  swept-is = refl

  written_is : written_by (head_of s) (slot_numbered (holder b s)) (slot_numbered (free_slot b s)) ≡ slot_numbered (slot_written b s)
  unfolding written_by slot_written pick
  written_is =
      sym (picked (creation_head (head_of s)) (free_slot b s) _
      ∙ ap (pick (creation_head (head_of s)) (slot_numbered (free_slot b s))) (picked (rewrites (head_of s)) (holder b s) slot_count))

  holder-most : holder b s ≤ slot_count
  unfolding holder
  holder-most = seek-most _ 0 slot_count

  abbrev limits : ℕ
  limits =
      limit_number (head_of s) (question15 b s) (question16 (unit_head b).powers (head_of s) (parts_of s))
      (question17 (unit_head b).kind.0 (unit_head b).powers (reported_records b s) (head_of s))
      (question18 (changes_state b s) (unit_head b).row (head_of s)) (question19 (head_of s) (free_slot b s)) 0

  abbrev deratings_fit : Bool
  deratings_fit = question16 (unit_head b).powers (head_of s) (parts_of s)

  decided_is : surveyed_decision (head_of s) (slot_numbered (holder b s)) (changes_state b s) (series answered 0 slot_count)
      ≡ accepted_decision b s
  decided_is = rw (cleared_are, free-is, written_is, left_is)

  limits-are : limits_decided b s (head_of s) (unit_head b) (slot_numbered (holder b s)) (changes_state b s) deratings_fit
      ≡ outcome (head_of s) (parts_of s) limits (accepted_decision b s)
  unfolding limits_asked
  limits-are =
      ap (limits_by b s (head_of s) (unit_head b) (slot_numbered (holder b s)) (changes_state b s) deratings_fit) surveyed
      ∙ rw (decided_is, closed-is, others_are, swept-is, free-is, there-is (free_slot b s), limits-in-order (head_of s) (parts_of s) (accepted_decision b s)) (simp then_assoc)

  by-number : decision_of b s ≡ outcome (head_of s) (parts_of s)
      (validation_number (unit_head b).kind.0 (head_of s) (parts_of s)
      (held_number (unit_head b).last_stamp (head_of s) (holder b s) (held_record b s) limits))
      (accepted_decision b s)
  unfolding decision_of refusal_number outcome
  by-number = refl

  in-order : decision_of b s
      ≡ (outcome (head_of s) (parts_of s) (validation_number (unit_head b).kind.0 (head_of s) (parts_of s) 0) tt
      then holder_asked (unit_head b).last_stamp (head_of s) (ltb (holder b s) slot_count) (held_record b s)
      then outcome (head_of s) (parts_of s) limits (accepted_decision b s))
  in-order =
      by-number
      ∙ stage (head_of s) (parts_of s) (unit_head b).kind.0 _ (accepted_decision b s)
      ∙ rw (held-in-order (head_of s) (parts_of s) (accepted_decision b s))

  -- of what the code hands from one stage to the next
  pub decides : {h : Head} {unit : UnitHead} {v : Validated} {r x : Record} {slot : Option ℕ} {is_held changes : Bool}
      {next : Result ⊤ Refusal} → h ≡ head_of s → unit ≡ unit_head b → v ≡ validated_of unit h (parts_of s) → r ≡ record_by h
      → slot ≡ slot_numbered (holder_of b r) → x ≡ record_at b (unwrap_or slot slot_count) → is_held ≡ is_some slot
      → next ≡ holder_asked unit.last_stamp h is_held x → changes ≡ changes_by unit.kind.0 h x
      → (v.passed then next then limits_decided b s h unit slot changes v.deratings) ≡ decision_of b s
  unfolding holder_of holder changes_state
  decides {x = x} {slot = slot} head read first own found there some next moves =
      let slot_is : slot ≡ slot_numbered (holder b s) = found ∙ rw (own, head) in
      let held_is : x ≡ held_record b s = there ∙ rw (slot_is, number-back (holder b s) holder-most) in
      rw (moves, next, some, held_is, slot_is, there-is (holder b s), first, read, head, limits-are) (sym in-order)
