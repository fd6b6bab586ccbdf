-- Paper 02, A2, "A derating that ended early": when a report with end mark 2 is accepted, and what it leaves.
use Rattle.std.specs.Prelude.{ℕ, ◌<◌, ◌≡◌, List, [], ◌∷◌, Bool, true, false, eqb, ltb, is_ok}
use Rattle.fields.specs.Fields.{bytes_of}
use Rattle.fields.specs.Lists.{every, part, put}
use Rattle.report.specs.Cover.{cover_of}
use Rattle.report.specs.Report.{head_of, parts_of}
use Rattle.rules.specs.Records.{kind_allows, powers_in_range, begun, same_identifier}
use Rattle.rules.specs.Block.{head_size, slot_size, slot_count, zeros, unit_head, slot_at, used}
use Rattle.rules.specs.Questions.{record_of, stamp_of, start_of, early_end_times, question4, question10, question13, live, record_at, holder, held_record}
use Rattle.rules.specs.Judge.{Verdict}
use Rattle.rules.specs.Desk.{block_at, with_block}

-- "A change to a begun record of types 2 to 4 may carry end mark 2, with start < end ≤ stamp. The parts must still cover the
-- shortened period": all that is asked of it, of the unit's block `b` and the report `s`
unfoldable pub early_end_passes : List ℕ → List ℕ → Bool
early_end_passes b s =
    every
    (question4 (head_of s) (parts_of s)
    ∷ kind_allows (unit_head b).kind.0 (record_of s)
    ∷ early_end_times (head_of s)
    ∷ is_ok (cover_of (parts_of s) (head_of s).period)
    ∷ powers_in_range (parts_of s)
    ∷ question10 (unit_head b).last_stamp (head_of s)
    ∷ ltb (holder b s) slot_count
    ∷ question13 (head_of s) (held_record b s)
    ∷ begun (held_record b s)
    ∷ eqb (start_of s) (held_record b s).period.start.0
    ∷ [])

-- "The record leaves its slot": of the block `b` before, the report `s` and the block `c` afterwards
pub record LeavesSlot (b s c : List ℕ) : Type 0 where
  -- its slot becomes zeros, and its identifier is in no slot
  pub emptied : slot_at c (holder b s) ≡ zeros slot_size
  pub gone : (i : ℕ) → i < slot_count → used (slot_at c i) ≡ true → same_identifier (record_of s) (record_at c i) ≡ false
  -- every other live slot has its bytes; the dead ones become zeros
  pub kept : (i : ℕ) → i < slot_count → live b (stamp_of s) i ≡ true → (i ≡ holder b s → ⊥) → slot_at c i ≡ slot_at b i
  pub dead : (i : ℕ) → i < slot_count → live b (stamp_of s) i ≡ false → slot_at c i ≡ zeros slot_size
  -- of the head the last stamp alone moves, so the row has its bytes
  pub head : part c 0 head_size ≡ put (part b 0 head_size) 16 (bytes_of 4 (stamp_of s))

-- the same on the register: "the answer carries warnings 0", and the unit's block alone moves
pub record EndedEarly (register s : List ℕ) (verdict : Verdict) : Type 0 where
  pub answered : verdict.answer ≡ record { number = 0; warnings = 0; part = 0 }
  pub rest : verdict.after ≡ with_block register (head_of s).unit (block_at verdict.after (head_of s).unit)
  pub block : LeavesSlot (block_at register (head_of s).unit) s (block_at verdict.after (head_of s).unit)
