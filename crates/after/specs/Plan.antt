-- What is decided of a block before it is written, and the block that this gives.
use Rattle.std.specs.Prelude.{ℕ, ◌<◌, ◌≡◌, List, ◌++◌, Bool, false, ◌&&◌, leb, eqb, length, get_or}
use Rattle.fields.specs.Fields.{bytes_of}
use Rattle.fields.specs.Lists.{pick, joined, part, put}
use Rattle.report.specs.Report.{most_parts, head_of, parts_of, part_count_of}
use Rattle.rules.specs.declared.Row.{Row}
use Rattle.rules.specs.Block.{head_size, slot_size, slot_count, block_size, zeros, unit_head, slot_at, used, is_slot}
use Rattle.rules.specs.Questions.{record_of, stamp_of}
use Rattle.rules.specs.After.{put_row, slot_bytes}
use Rattle.row.specs.Step.{row_stepped}
use Rattle.after.specs.declared.Plan.{Plan}

-- a whole block's free slots are zeros
pub record FreeSlots (b : List ℕ) : Type 0 where
  pub zero : (i : ℕ) → i < slot_count → used (slot_at b i) ≡ false → slot_at b i ≡ zeros slot_size

-- a slot z that is written, cleared or left as it is
unfoldable pub slot_made : List ℕ → Bool → Bool → List ℕ → List ℕ
slot_made s written cleared z = pick written (slot_bytes (record_of s) (parts_of s)) (pick cleared (zeros slot_size) z)

abbrev pub slot_planned : List ℕ → List ℕ → Plan → ℕ → List ℕ
slot_planned b s plan i = slot_made s (is_slot plan.written i) (get_or plan.cleared i false) (slot_at b i)

-- a head with its last stamp and, at a state change, its row
unfoldable pub head_made : List ℕ → Bool → Row → ℕ → List ℕ
head_made head changes row stamp = put (pick changes (put_row head row) head) 16 (bytes_of 4 stamp)

-- the row that the event step leaves
abbrev pub row_planned : List ℕ → List ℕ → Row
row_planned b s = row_stepped (unit_head b).row (head_of s)

abbrev pub head_planned : List ℕ → List ℕ → Plan → List ℕ
head_planned b s plan = head_made (part b 0 head_size) plan.changes (row_planned b s) (stamp_of s)

unfoldable pub slots_planned : List ℕ → List ℕ → Plan → List ℕ
slots_planned b s plan = part b 0 head_size ++ joined (slot_planned b s plan) 0 slot_count

-- a block of another length, or after a report of more than 100 parts, is left as it is
unfoldable pub plan_applied : List ℕ → List ℕ → Plan → List ℕ
plan_applied b s plan =
    pick (eqb (length b) block_size && leb (part_count_of s) most_parts)
    (head_planned b s plan ++ joined (slot_planned b s plan) 0 slot_count)
    b
