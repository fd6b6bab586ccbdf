-- What an accepted early end leaves, and when it is accepted. Assumes nothing.
use Prim.Native.Nat.{ℕ, ◌*◌, ◌-◌, ◌<◌}
use mathlib.Core.Path.{◌≡◌, refl, sym, ap, ◌∙◌}
use mathlib.Core.Bool.{Bool, true, false, not, ◌&&◌, ◌||◌, false≢true, and-false}
use mathlib.Core.List.{List}
use native.Mathlib.Omega.{arith}
use lib.Dec.{eqb}
use lib.ListN.{length}
use lib.Seq.{take_all}
use borrow.Author.Tests.{eqb-true, eq-eqb, ne_eqb, ltb-true, not-true}
use Rattle.fields.specs.Lists.{pick, every, and_each, part, put}
use Rattle.fields.specs.Fields.{bytes_of}
use Rattle.fields.proofs.Bools.{and_left, and_right, pick-elim, range-true, every_true, every-intro, both_ways}
use Rattle.fields.proofs.Slices.{part-before, part-put}
use Rattle.report.specs.Report.{head_of, parts_of, whole}
use Rattle.rules.specs.Codes.{stop, off_grid, change, is_levelled, planned, executed}
use Rattle.rules.specs.Records.{cover_by, begun, same_identifier, closes}
use Rattle.rules.specs.Roster.{pieces}
use Rattle.rules.specs.Block.{head_size, slot_size, slot_count, block_size, zeros, slot_at, used}
use Rattle.rules.specs.Whole.{block_whole, register_whole}
use Rattle.rules.specs.Questions.{record_of, ends_early, is_event, is_withdrawal, is_operation, stamp_of, record_at, live, holder, held_record, changes_state, leaves, stays, early_end_times, start_of, question4, question6, question8}
use Rattle.rules.specs.After.{slot_written, slot_after, head_after, block_after, warnings}
use Rattle.rules.specs.Judge.{Verdict, validation_number, held_number, limit_number, refusal_number, judge}
use Rattle.rules.specs.Desk.{block_at, with_block, on_unit, question3, answer_to}
use Rattle.rules.specs.EarlyEnd.{early_end_passes, LeavesSlot, EndedEarly}
use Rattle.rules.proofs.Passed.{Passed, passed}
use Rattle.rules.proofs.Holding.{free-unused}
use Rattle.rules.proofs.Heads.{head-length}
use Rattle.rules.proofs.Afterwards.{no-creation, slot-after, block-length}
use Rattle.rules.proofs.Apart.{old-identifier}
use Rattle.rules.proofs.BlockLaws.{ok-size, old_apart}
use Rattle.rules.proofs.OneUnitAlone.{each-passes}
use Rattle.rules.proofs.Refusals.{block_inside}

-- an early end that passed question 4 is no event and no withdrawal
module _ (s : List ℕ) (early : ends_early (head_of s) ≡ true) (q4 : question4 (head_of s) (parts_of s) ≡ true) where
  neither : (is_event s || is_withdrawal s) ≡ false
  unfolding question4
  neither =
      let other-mark : eqb (head_of s).end_mark.0 planned ≡ false = rw (eqb-true (head_of s).end_mark.0 executed early) refl in
      not-true (is_event s || is_withdrawal s) (rw (other-mark, early) at (every_true _ q4).1.1.0)

  pub no-event : is_event s ≡ false
  no-event = by-case (is_event s) refl where
    by-case : (t : Bool) → is_event s ≡ t → is_event s ≡ false
    by-case false e = e
    by-case true e = absurd (false≢true (sym (rw e at neither)))

  pub no-withdrawal : is_withdrawal s ≡ false
  no-withdrawal = rw no-event at neither

-- a report of types 2 to 4 changes no state, and no record leaves
module _ (b s : List ℕ) (levelled : is_levelled (head_of s).record_type.0 ≡ true) (no-event : is_event s ≡ false) where
  no_stop : eqb (head_of s).record_type.0 stop ≡ false
  no_stop =
      let in_range = range-true 2 4 (head_of s).record_type.0 levelled in
      ne_eqb (head_of s).record_type.0 stop (λ e. omega (arith, in_range))

  no-off-grid : eqb (head_of s).record_type.0 off_grid ≡ false
  no-off-grid =
      let in_range = range-true 2 4 (head_of s).record_type.0 levelled in
      ne_eqb (head_of s).record_type.0 off_grid (λ e. omega (arith, in_range))

  pub same-state : changes_state b s ≡ false
  unfolding changes_state
  same-state = rw (no-event, no_stop, no-off-grid, and-false, and-false)

  none-leaves : (i : ℕ) → leaves b s i ≡ false
  unfolding leaves closes every and_each
  none-leaves i = rw (same-state, no_stop, and-false, and-false)

-- question 6 of one that passed
early-times : (b s : List ℕ) → Passed b s → ends_early (head_of s) ≡ true → early_end_times (head_of s) ≡ true
unfolding question6 pick
early-times b s p early = rw (no-withdrawal s early p.q4, no-event s early p.q4, early) at p.q6

module _ (unit : ℕ) (b s : List ℕ) (block-whole : block_whole unit b ≡ true) (p : Passed b s)
    (early : ends_early (head_of s) ≡ true) where
  size : length b ≡ block_size
  size = ok-size unit b block-whole

  event-not : is_event s ≡ false
  event-not = no-event s early p.q4

  withdrawal-not : is_withdrawal s ≡ false
  withdrawal-not = no-withdrawal s early p.q4

  times : early_end_times (head_of s) ≡ true
  times = early-times b s p early

  changes : is_operation change s ≡ true
  changes = (every_true _ times).0

  levelled : is_levelled (head_of s).record_type.0 ≡ true
  levelled = (every_true _ times).1.0

  none_written : (i : ℕ) → i < slot_count → slot_at (block_after b s) i ≡ pick (stays b s i) (slot_at b i) (zeros slot_size)
  unfolding slot_after slot_written pick
  none_written i h =
      slot-after b s size p i h ∙ rw (no-creation s changes, changes, early, ne_eqb i slot_count (λ e. omega arith))

  -- the live slots but its own stay
  stays-when : (i : ℕ) → stays b s i ≡ (live b (stamp_of s) i && not (eqb i (holder b s)))
  unfolding stays
  stays-when i = rw (none-leaves b s levelled event-not i, withdrawal-not, early) (by-case (live b (stamp_of s) i)) where
    by-case : (t : Bool) → (t && true && not (eqb i (holder b s))) ≡ (t && not (eqb i (holder b s)))
    by-case true = refl
    by-case false = refl

  held : holder b s < slot_count
  held = ltb-true (holder b s) slot_count (rw (event-not, no-creation s changes) at p.q12)

  kept : (i : ℕ) → i < slot_count → live b (stamp_of s) i ≡ true → (i ≡ holder b s → ⊥) → slot_at (block_after b s) i ≡ slot_at b i
  unfolding pick
  kept i h l ne = none_written i h ∙ rw (stays-when i, l, ne_eqb i (holder b s) ne)

  dead : (i : ℕ) → i < slot_count → live b (stamp_of s) i ≡ false → slot_at (block_after b s) i ≡ zeros slot_size
  unfolding pick
  dead i h l = none_written i h ∙ rw (stays-when i, l)

  emptied : slot_at (block_after b s) (holder b s) ≡ zeros slot_size
  unfolding pick
  emptied = none_written (holder b s) held ∙ rw (stays-when (holder b s), eq-eqb (holder b s) (holder b s) refl, and-false)

  gone : (i : ℕ) → i < slot_count → used (slot_at (block_after b s) i) ≡ true
      → same_identifier (record_of s) (record_at (block_after b s) i) ≡ false
  gone i h u = by-case (live b (stamp_of s) i) refl (eqb i (holder b s)) refl where
    freed : slot_at (block_after b s) i ≡ zeros slot_size → ⊥
    freed z = false≢true (sym free-unused ∙ ap used (sym z) ∙ u)

    by-case : (t : Bool) → live b (stamp_of s) i ≡ t → (o : Bool) → eqb i (holder b s) ≡ o
        → same_identifier (record_of s) (record_at (block_after b s) i) ≡ false
    by-case false l o e = absurd (freed (dead i h l))
    by-case true l true e = absurd (freed (ap (slot_at (block_after b s)) (eqb-true i (holder b s) e) ∙ emptied))
    by-case true l false e =
        let ne : i ≡ holder b s → ⊥ = λ q. false≢true (sym e ∙ eq-eqb i (holder b s) q) in
        rw (kept i h l ne) (old-identifier b s p (old_apart unit b s block-whole p) i h l (λ c. ne) event-not changes)

  head-kept : part (block_after b s) 0 head_size ≡ put (part b 0 head_size) 16 (bytes_of 4 (stamp_of s))
  unfolding block_after head_after part pick
  head-kept =
      let long = head-length b s size in
      part-before (head_after b s) _ 0 head_size (omega arith) ∙ take_all head_size (head_after b s) (omega arith)
      ∙ rw (same-state b s levelled event-not)

  pub leaves-slot : LeavesSlot b s (block_after b s)
  leaves-slot = record { emptied = emptied; gone = gone; kept = kept; dead = dead; head = head-kept }

  pub no-warnings : warnings b s ≡ 0
  unfolding warnings pick
  no-warnings = rw (event-not, withdrawal-not, early)

-- at the desk: the unit's own block is whole, and the block afterwards is put in its place
module _ (register s : List ℕ) (register-whole : register_whole register ≡ true) (asked : question3 register s ≡ true)
    (early : ends_early (head_of s) ≡ true) where
  abbrev own : List ℕ
  own = block_at register (head_of s).unit

  own-whole : block_whole (head_of s).unit own ≡ true
  unfolding question3
  own-whole =
      let inside = range-true 1 (pieces block_size register) (head_of s).unit (every_true _ asked).0 in
      each-passes block_size block_whole register register-whole (head_of s).unit inside.0 (omega (arith, inside))

  put_back : (c : List ℕ) → length c ≡ block_size → block_at (with_block register (head_of s).unit c) (head_of s).unit ≡ c
  put_back c long =
      ap (λ (n : ℕ). part (with_block register (head_of s).unit c) (block_size * ((head_of s).unit - 1)) n) (sym long)
      ∙ part-put register (block_size * ((head_of s).unit - 1)) c (omega (arith, block_inside register s asked, long))

  on-block : (judge own s).answer.number ≡ 0 → EndedEarly register s (on_unit register (head_of s).unit (judge own s))
  unfolding judge
  on-block =
      pick-elim (λ (v : Verdict). v.answer.number ≡ 0 → EndedEarly register s (on_unit register (head_of s).unit v))
      (eqb (refusal_number own s) 0)
      (λ e z.
      let p = passed own s (eqb-true (refusal_number own s) 0 e) in
      let back = put_back (block_after own s) (block-length own s (ok-size (head_of s).unit own own-whole) p) in
      record {
        answered = rw (no-warnings (head_of s).unit own s own-whole p early);
        rest = rw back;
        block = rw back (leaves-slot (head_of s).unit own s own-whole p early);
      })
      (λ e z. absurd (false≢true (sym e ∙ eq-eqb (refusal_number own s) 0 z)))

pub ended-early : (register s : List ℕ) → (answer_to register s).answer.number ≡ 0 → ends_early (head_of s) ≡ true
    → EndedEarly register s (answer_to register s)
unfolding answer_to
ended-early register s =
    pick-elim Ended (register_whole register)
    (λ ok. pick-elim Ended (whole s)
    (λ _. pick-elim Ended (question3 register s)
    (λ asked zero early. on-block register s ok asked early zero)
    (λ _ z. absurd (omega arith)))
    (λ _ z. absurd (omega arith)))
    (λ _ z. absurd (omega arith))
  where
    Ended : Verdict → Type 0
    Ended v = v.answer.number ≡ 0 → ends_early (head_of s) ≡ true → EndedEarly register s v

-- when it is accepted
module _ (b s : List ℕ) (early : ends_early (head_of s) ≡ true) where
  if-accepted : refusal_number b s ≡ 0 → early_end_passes b s ≡ true
  unfolding early_end_passes question8 cover_by pick
  if-accepted z =
      let p = passed b s z in
      let e = no-event s early p.q4 in
      let w = no-withdrawal s early p.q4 in
      let t = early-times b s p early in
      let c = (every_true _ t).0 in
      let l = (every_true _ t).1.0 in
      let n = no-creation s c in
      let q14 : pick (begun (held_record b s))
      (is_operation change s && eqb (start_of s) (held_record b s).period.start.0 && begun (record_of s)) false ≡ true = rw
      (e, n, early) at p.q14 in
      let h = held-begun (begun (held_record b s)) _ q14 in
      every-intro _ (
        p.q4,
        (
          p.q5,
          (
            t,
            (
              rw (w, l) at p.q8,
              (
                rw (e, w) at p.q9,
                (
                  p.q10,
                  (
                    rw (e, n) at p.q12,
                    (
                      rw e at p.q13,
                      (
                        h.0,
                        (
                          and_right (is_operation change s) _
                              (and_left (is_operation change s && eqb (start_of s) (held_record b s).period.start.0) (begun (record_of s)) h.1),
                          tt,
                        ),
                      ),
                    ),
                  ),
                ),
              ),
            ),
          ),
        ),
      )
    where
      held-begun : (t a : Bool) → pick t a false ≡ true → (t ≡ true) × (a ≡ true)
      held-begun true a e = (refl, e)
      held-begun false a e = absurd (false≢true e)

  then-accepted : early_end_passes b s ≡ true → refusal_number b s ≡ 0
  unfolding early_end_passes refusal_number validation_number held_number limit_number question6 question8 cover_by pick
  then-accepted passes =
      let a = every_true _ passes in
      let e = no-event s early a.0 in
      let w = no-withdrawal s early a.0 in
      let t = every_true _ a.1.1.0 in
      let c = t.0 in
      let n = no-creation s c in
      rw (
        a.0,
        a.1.0,
        w,
        e,
        early,
        a.1.1.0,
        t.1.0,
        a.1.1.1.0,
        a.1.1.1.1.0,
        a.1.1.1.1.1.0,
        a.1.1.1.1.1.1.0,
        a.1.1.1.1.1.1.1.0,
        a.1.1.1.1.1.1.1.1.0,
        a.1.1.1.1.1.1.1.1.1.0,
        t.1.1.0,
        c,
        n,
        same-state b s t.1.0 e,
      )

  pub accepted-exactly : eqb (refusal_number b s) 0 ≡ early_end_passes b s
  accepted-exactly =
      both_ways _ _ (λ z. if-accepted (eqb-true (refusal_number b s) 0 z)) (λ q. eq-eqb (refusal_number b s) 0 (then-accepted q))
