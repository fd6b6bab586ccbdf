-- Our own worked cases beside the starred ones: for each clause of the definitions one case that just passes and one that just
-- fails. docs/BOUNDARIES.md has which list pins which sentence.
pub mod Tests
pub mod Layout
pub mod Whole
pub mod Desk
pub mod Form
pub mod Slots
pub mod Limits
pub mod Order
pub mod Warnings
pub mod After
pub mod EarlyEnd
use Rattle.std.specs.Prelude.{◌≡◌, []}
use Rattle.rules.specs.Boundaries.Tests.{failing}
use Rattle.rules.specs.Boundaries.Layout as layout
use Rattle.rules.specs.Boundaries.Whole as whole
use Rattle.rules.specs.Boundaries.Desk as desk
use Rattle.rules.specs.Boundaries.Form as form
use Rattle.rules.specs.Boundaries.Slots as slots
use Rattle.rules.specs.Boundaries.Limits as limits
use Rattle.rules.specs.Boundaries.Order as order
use Rattle.rules.specs.Boundaries.Warnings as warnings
use Rattle.rules.specs.Boundaries.After as after
use Rattle.rules.specs.Boundaries.EarlyEnd as early_end

-- no case fails
pub record BoundariesHold : Type 0 where
  -- codes, bytes; question 2
  pub layout_codes : failing 1 layout.codes ≡ []
  pub layout_bytes : failing 1 layout.bytes ≡ []
  pub layout_whole_reports : failing 1 layout.whole_reports ≡ []
  -- questions 1 and 20
  pub whole_entries : failing 1 whole.entries ≡ []
  pub whole_pieces : failing 1 whole.pieces ≡ []
  pub whole_heads : failing 1 whole.heads ≡ []
  pub whole_records : failing 1 whole.records ≡ []
  pub whole_pairs : failing 1 whole.pairs ≡ []
  pub whole_slots : failing 1 whole.slots ≡ []
  pub whole_blocks : failing 1 whole.blocks ≡ []
  -- set-up, questions 1 to 3
  pub desk_set_ups : failing 1 desk.set_ups ≡ []
  pub desk_owners : failing 1 desk.owners ≡ []
  pub desk_asked : failing 1 desk.asked ≡ []
  -- questions 4 to 9
  pub form_ranges : failing 1 form.ranges ≡ []
  pub form_times : failing 1 form.times ≡ []
  pub form_kinds : failing 1 form.kinds ≡ []
  pub form_consistent_times : failing 1 form.consistent_times ≡ []
  pub form_quarters : failing 1 form.quarters ≡ []
  pub form_cover : failing 1 form.cover ≡ []
  pub form_named_parts : failing 1 form.named_parts ≡ []
  pub form_powers : failing 1 form.powers ≡ []
  -- questions 10 to 15
  pub slots_stamps : failing 1 slots.stamps ≡ []
  pub slots_identifiers : failing 1 slots.identifiers ≡ []
  pub slots_same_record : failing 1 slots.same_record ≡ []
  pub slots_begun_records : failing 1 slots.begun_records ≡ []
  pub slots_overlaps : failing 1 slots.overlaps ≡ []
  pub slots_closing : failing 1 slots.closing ≡ []
  -- questions 16 to 19
  pub limits_deratings : failing 1 limits.deratings ≡ []
  pub limits_levels_w1_m1 : failing 1 limits.levels_w1_m1 ≡ []
  pub limits_levels_z1 : failing 1 limits.levels_z1 ≡ []
  pub limits_shared_minutes : failing 1 limits.shared_minutes ≡ []
  pub limits_transitions : failing 1 limits.transitions ≡ []
  pub limits_begins : failing 1 limits.begins ≡ []
  pub limits_room : failing 1 limits.room ≡ []
  -- the first "no", and what is skipped
  pub order_first_no : failing 1 order.first_no ≡ []
  pub order_skips : failing 1 order.skips ≡ []
  -- the warnings
  pub warnings_warning1 : failing 1 warnings.warning1 ≡ []
  pub warnings_warning2 : failing 1 warnings.warning2 ≡ []
  pub warnings_warning4 : failing 1 warnings.warning4 ≡ []
  pub warnings_warning8 : failing 1 warnings.warning8 ≡ []
  pub warnings_added_up : failing 1 warnings.added_up ≡ []
  -- the block afterwards
  pub after_rows : failing 1 after.rows ≡ []
  pub after_slots : failing 1 after.slots ≡ []
  pub after_leaving : failing 1 after.leaving ≡ []
  pub after_refusals : failing 1 after.refusals ≡ []
  -- 02, A2
  pub early_end_marks : failing 1 early_end.marks ≡ []
  pub early_end_times : failing 1 early_end.times ≡ []
  pub early_end_parts : failing 1 early_end.parts ≡ []
  pub early_end_passed_over : failing 1 early_end.passed_over ≡ []
  pub early_end_held_records : failing 1 early_end.held_records ≡ []
  pub early_end_afterwards : failing 1 early_end.afterwards ≡ []
