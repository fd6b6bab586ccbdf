-- Of an accepted report, a plan that says what the definitions of paper 01 say gives the block afterwards. Assumes nothing.
use Prim.Native.Nat.{ℕ, ◌≤◌, ◌<◌}
use mathlib.Core.Path.{◌≡◌, refl, ap, ◌∙◌}
use mathlib.Core.Bool.{Bool, true, false, not, ◌&&◌, ◌||◌, false≢true}
use mathlib.Core.List.{List, ◌++◌}
use native.Mathlib.Omega.{arith}
use native.Mathlib.Nat.{zero-add}
use lib.Dec.{eqb}
use lib.ListN.{length, get_or}
use borrow.Author.Tests.{eq-eqb, le-leb, eqb-true}
use Rattle.fields.specs.Lists.{pick, series, part}
use Rattle.fields.proofs.Bools.{and_right}
use Rattle.fields.proofs.Joined.{joined_same}
use Rattle.fields.proofs.Tests.{series-at}
use Rattle.report.specs.Report.{most_parts, head_of, parts_of, part_count_of}
use Rattle.rules.specs.declared.Row.{Row}
use Rattle.rules.specs.Block.{head_size, slot_size, slot_count, block_size, zeros, unit_head, slot_at, used, slot_numbered}
use Rattle.rules.specs.Codes.{W1, create, change, withdraw}
use Rattle.rules.specs.Records.{begun, holds_state}
use Rattle.rules.specs.Questions.{record_of, is_event, is_withdrawal, is_operation, stamp_of, held_record, begins, changes_state, has_transition, live, stays}
use Rattle.rules.specs.After.{row_after, head_after, slot_bytes, slot_written, cleared, slot_after, block_after}
use Rattle.rules.specs.Judge.{refusal_number}
use Rattle.rules.proofs.Afterwards.{event-creates}
use Rattle.rules.proofs.Passed.{Passed, passed}
use Rattle.rules.proofs.Slots.{numbered}
use Rattle.after.specs.declared.Plan.{Plan}
use Rattle.after.specs.Plan.{FreeSlots, slot_made, slot_planned, row_planned, head_made, head_planned, plan_applied}

-- question 18 said "yes" to an accepted report that changes the state, so the event step moves the row
module _ (b s : List ℕ) (p : Passed b s) (changes : changes_state b s ≡ true) where
  no-event : is_withdrawal s ≡ true → (t : Bool) → is_event s ≡ t → is_event s ≡ false
  no-event w false e = e
  no-event w true e =
      let one = eqb-true (head_of s).operation.0 create (event-creates b s p e) in
      let three = eqb-true (head_of s).operation.0 withdraw w in
      absurd (omega arith)

  -- a withdrawal is no event, and begins nothing
  no-withdrawal : (t : Bool) → is_withdrawal s ≡ t → is_withdrawal s ≡ false
  unfolding changes_state
  no-withdrawal false w = w
  no-withdrawal true w =
      let way = and_right (eqb (unit_head b).kind.0 W1) (is_event s || begins b s) changes in
      let begun-now : begins b s ≡ true = rw (no-event w (is_event s) refl) at way in
      let operation = and_right (holds_state (record_of s))
      (is_operation create s || is_operation change s && not (begun (held_record b s))) begun-now in
      absurd (false≢true (rw (eqb-true (head_of s).operation.0 withdraw w) at operation))

  row-moves : row_planned b s ≡ row_after b s
  unfolding pick
  row-moves =
      let asked : has_transition (unit_head b).row (head_of s) ≡ true = rw (no-withdrawal (is_withdrawal s) refl, changes) at
      p.q18 in
      rw asked

module _ (b s : List ℕ) (plan : Plan) where
  rows_same : Passed b s → (t : Bool) → changes_state b s ≡ t
      → head_made (part b 0 head_size) t (row_planned b s) (stamp_of s) ≡ head_made (part b 0 head_size) t (row_after b s) (stamp_of s)
  unfolding head_made pick
  rows_same p true e = ap (λ (row : Row). head_made (part b 0 head_size) true row (stamp_of s)) (row-moves b s p e)
  rows_same p false e = refl

  head-same : Passed b s → plan.changes ≡ changes_state b s → head_planned b s plan ≡ head_after b s
  unfolding head_made head_after
  head-same p c = rw c (rows_same p (changes_state b s) refl)

  stays-used : (v : ℕ) → used (slot_at b v) ≡ false → false ≡ stays b s v
  unfolding stays live
  stays-used v e = rw e

  -- a free slot has zeros already, and nothing stays in it
  slot-left : FreeSlots b → (v : ℕ) → v < slot_count → (u t : Bool) → used (slot_at b v) ≡ u → stays b s v ≡ t
      → pick (u && not t) (zeros slot_size) (slot_at b v) ≡ pick t (slot_at b v) (zeros slot_size)
  unfolding pick
  slot-left free v h true true e f = refl
  slot-left free v h true false e f = refl
  slot-left free v h false false e f = free.zero v h e
  slot-left free v h false true e f = absurd (false≢true (stays-used v e ∙ f))

  slot_same : FreeSlots b → plan.cleared ≡ series (cleared b s) 0 slot_count → plan.written ≡ slot_numbered (slot_written b s) → (v : ℕ)
      → v < slot_count → slot_planned b s plan v ≡ slot_after b s v
  unfolding slot_made slot_after
  slot_same free k w v h =
      let e : get_or plan.cleared v false ≡ cleared b s v =
      ap (λ (l : List Bool). get_or l v false) k ∙ series-at (cleared b s) 0 slot_count v false h ∙ ap (cleared b s) (zero-add v) in
      rw (w, numbered v (slot_written b s) h, e)
      (ap (λ (z : List ℕ). pick (eqb v (slot_written b s)) (slot_bytes (record_of s) (parts_of s)) z)
      (slot-left free v h (used (slot_at b v)) (stays b s v) refl refl))

  pub plan_after : length b ≡ block_size → FreeSlots b → part_count_of s ≤ most_parts → plan.cleared ≡ series (cleared b s) 0 slot_count
      → plan.written ≡ slot_numbered (slot_written b s) → plan.changes ≡ changes_state b s → refusal_number b s ≡ 0
      → plan_applied b s plan ≡ block_after b s
  unfolding plan_applied block_after pick
  plan_after size free few k w c zero-now =
      rw (eq-eqb (length b) block_size size, le-leb (part_count_of s) most_parts few, head-same (passed b s zero-now) c)
      (ap (λ (l : List ℕ). head_after b s ++ l)
      (joined_same (slot_planned b s plan) (slot_after b s) 0 slot_count (λ v l r. slot_same free k w v (omega arith))))
