-- The boundaries hold, list by list, by computation: one declaration may take 50 million steps. Assumes nothing.
use mathlib.Core.Path.{◌≡◌, refl}
use mathlib.Core.List.{[]}
use Rattle.rules.specs.Boundaries.{BoundariesHold}
use Rattle.rules.specs.Boundaries.Tests.{failing, same_bytes}
use Rattle.rules.specs.Boundaries.Layout as layout
use Rattle.rules.specs.Boundaries.Whole as whole
use Rattle.rules.specs.Boundaries.Desk as desk
use Rattle.rules.specs.Boundaries.Form as form
use Rattle.rules.specs.Boundaries.Slots as slots
use Rattle.rules.specs.Boundaries.Limits as limits
use Rattle.rules.specs.Boundaries.Order as order
use Rattle.rules.specs.Boundaries.Warnings as warnings
use Rattle.rules.specs.Boundaries.After as after
use Rattle.rules.specs.Boundaries.EarlyEnd as early_end
use Rattle.rules.proofs.Computed.{computed}

layout_codes : failing 1 layout.codes ≡ []
unfolding computed failing same_bytes
layout_codes = refl

layout_bytes : failing 1 layout.bytes ≡ []
unfolding computed failing same_bytes
layout_bytes = refl

layout_whole_reports : failing 1 layout.whole_reports ≡ []
unfolding computed failing same_bytes
layout_whole_reports = refl

whole_entries : failing 1 whole.entries ≡ []
unfolding computed failing same_bytes
whole_entries = refl

whole_pieces : failing 1 whole.pieces ≡ []
unfolding computed failing same_bytes
whole_pieces = refl

whole_heads : failing 1 whole.heads ≡ []
unfolding computed failing same_bytes
whole_heads = refl

whole_records : failing 1 whole.records ≡ []
unfolding computed failing same_bytes
whole_records = refl

whole_pairs : failing 1 whole.pairs ≡ []
unfolding computed failing same_bytes
whole_pairs = refl

whole_slots : failing 1 whole.slots ≡ []
unfolding computed failing same_bytes
whole_slots = refl

whole_blocks : failing 1 whole.blocks ≡ []
unfolding computed failing same_bytes
whole_blocks = refl

desk_set_ups : failing 1 desk.set_ups ≡ []
unfolding computed failing same_bytes
desk_set_ups = refl

desk_owners : failing 1 desk.owners ≡ []
unfolding computed failing same_bytes
desk_owners = refl

desk_asked : failing 1 desk.asked ≡ []
unfolding computed failing same_bytes
desk_asked = refl

form_ranges : failing 1 form.ranges ≡ []
unfolding computed failing same_bytes
form_ranges = refl

form_times : failing 1 form.times ≡ []
unfolding computed failing same_bytes
form_times = refl

form_kinds : failing 1 form.kinds ≡ []
unfolding computed failing same_bytes
form_kinds = refl

form_consistent_times : failing 1 form.consistent_times ≡ []
unfolding computed failing same_bytes
form_consistent_times = refl

form_quarters : failing 1 form.quarters ≡ []
unfolding computed failing same_bytes
form_quarters = refl

form_cover : failing 1 form.cover ≡ []
unfolding computed failing same_bytes
form_cover = refl

form_named_parts : failing 1 form.named_parts ≡ []
unfolding computed failing same_bytes
form_named_parts = refl

form_powers : failing 1 form.powers ≡ []
unfolding computed failing same_bytes
form_powers = refl

slots_stamps : failing 1 slots.stamps ≡ []
unfolding computed failing same_bytes
slots_stamps = refl

slots_identifiers : failing 1 slots.identifiers ≡ []
unfolding computed failing same_bytes
slots_identifiers = refl

slots_same_record : failing 1 slots.same_record ≡ []
unfolding computed failing same_bytes
slots_same_record = refl

slots_begun_records : failing 1 slots.begun_records ≡ []
unfolding computed failing same_bytes
slots_begun_records = refl

slots_overlaps : failing 1 slots.overlaps ≡ []
unfolding computed failing same_bytes
slots_overlaps = refl

slots_closing : failing 1 slots.closing ≡ []
unfolding computed failing same_bytes
slots_closing = refl

limits_deratings : failing 1 limits.deratings ≡ []
unfolding computed failing same_bytes
limits_deratings = refl

limits_levels_w1_m1 : failing 1 limits.levels_w1_m1 ≡ []
unfolding computed failing same_bytes
limits_levels_w1_m1 = refl

limits_levels_z1 : failing 1 limits.levels_z1 ≡ []
unfolding computed failing same_bytes
limits_levels_z1 = refl

limits_shared_minutes : failing 1 limits.shared_minutes ≡ []
unfolding computed failing same_bytes
limits_shared_minutes = refl

limits_transitions : failing 1 limits.transitions ≡ []
unfolding computed failing same_bytes
limits_transitions = refl

limits_begins : failing 1 limits.begins ≡ []
unfolding computed failing same_bytes
limits_begins = refl

limits_room : failing 1 limits.room ≡ []
unfolding computed failing same_bytes
limits_room = refl

order_first_no : failing 1 order.first_no ≡ []
unfolding computed failing same_bytes
order_first_no = refl

order_skips : failing 1 order.skips ≡ []
unfolding computed failing same_bytes
order_skips = refl

warnings_warning1 : failing 1 warnings.warning1 ≡ []
unfolding computed failing same_bytes
warnings_warning1 = refl

warnings_warning2 : failing 1 warnings.warning2 ≡ []
unfolding computed failing same_bytes
warnings_warning2 = refl

warnings_warning4 : failing 1 warnings.warning4 ≡ []
unfolding computed failing same_bytes
warnings_warning4 = refl

warnings_warning8 : failing 1 warnings.warning8 ≡ []
unfolding computed failing same_bytes
warnings_warning8 = refl

warnings_added_up : failing 1 warnings.added_up ≡ []
unfolding computed failing same_bytes
warnings_added_up = refl

after_rows : failing 1 after.rows ≡ []
unfolding computed failing same_bytes
after_rows = refl

after_slots : failing 1 after.slots ≡ []
unfolding computed failing same_bytes
after_slots = refl

after_leaving : failing 1 after.leaving ≡ []
unfolding computed failing same_bytes
after_leaving = refl

after_refusals : failing 1 after.refusals ≡ []
unfolding computed failing same_bytes
after_refusals = refl

early_end_marks : failing 1 early_end.marks ≡ []
unfolding computed failing same_bytes
early_end_marks = refl

early_end_times : failing 1 early_end.times ≡ []
unfolding computed failing same_bytes
early_end_times = refl

early_end_parts : failing 1 early_end.parts ≡ []
unfolding computed failing same_bytes
early_end_parts = refl

early_end_passed_over : failing 1 early_end.passed_over ≡ []
unfolding computed failing same_bytes
early_end_passed_over = refl

early_end_held_records : failing 1 early_end.held_records ≡ []
unfolding computed failing same_bytes
early_end_held_records = refl

early_end_afterwards : failing 1 early_end.afterwards ≡ []
unfolding computed failing same_bytes
early_end_afterwards = refl

pub boundaries-hold : BoundariesHold
boundaries-hold = record {
  layout_codes = layout_codes;
  layout_bytes = layout_bytes;
  layout_whole_reports = layout_whole_reports;
  whole_entries = whole_entries;
  whole_pieces = whole_pieces;
  whole_heads = whole_heads;
  whole_records = whole_records;
  whole_pairs = whole_pairs;
  whole_slots = whole_slots;
  whole_blocks = whole_blocks;
  desk_set_ups = desk_set_ups;
  desk_owners = desk_owners;
  desk_asked = desk_asked;
  form_ranges = form_ranges;
  form_times = form_times;
  form_kinds = form_kinds;
  form_consistent_times = form_consistent_times;
  form_quarters = form_quarters;
  form_cover = form_cover;
  form_named_parts = form_named_parts;
  form_powers = form_powers;
  slots_stamps = slots_stamps;
  slots_identifiers = slots_identifiers;
  slots_same_record = slots_same_record;
  slots_begun_records = slots_begun_records;
  slots_overlaps = slots_overlaps;
  slots_closing = slots_closing;
  limits_deratings = limits_deratings;
  limits_levels_w1_m1 = limits_levels_w1_m1;
  limits_levels_z1 = limits_levels_z1;
  limits_shared_minutes = limits_shared_minutes;
  limits_transitions = limits_transitions;
  limits_begins = limits_begins;
  limits_room = limits_room;
  order_first_no = order_first_no;
  order_skips = order_skips;
  warnings_warning1 = warnings_warning1;
  warnings_warning2 = warnings_warning2;
  warnings_warning4 = warnings_warning4;
  warnings_warning8 = warnings_warning8;
  warnings_added_up = warnings_added_up;
  after_rows = after_rows;
  after_slots = after_slots;
  after_leaving = after_leaving;
  after_refusals = after_refusals;
  early_end_marks = early_end_marks;
  early_end_times = early_end_times;
  early_end_parts = early_end_parts;
  early_end_passed_over = early_end_passed_over;
  early_end_held_records = early_end_held_records;
  early_end_afterwards = early_end_afterwards;
}
