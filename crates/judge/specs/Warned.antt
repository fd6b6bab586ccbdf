-- The warnings, by the block afterwards and whether a record left.
use Rattle.std.specs.Prelude.{ℕ, ◌+◌, List, Bool, ◌&&◌, ◌||◌, eqb}
use Rattle.fields.specs.Lists.{pick}
use Rattle.quantities.specs.Quantities.{overlap}
use Rattle.report.specs.declared.Head.{Head}
use Rattle.rules.specs.declared.Record.{Record}
use Rattle.rules.specs.Codes.{stop, meet}
use Rattle.rules.specs.Block.{slot_at, used}
use Rattle.rules.specs.Questions.{event_head, vacates, record_at}
use Rattle.rules.specs.Minutes.{above_max, below_min}
use Rattle.rules.specs.After.{one_stop_one_levelled, warns_overlap, warns_minute, worth}

-- warning 1, of a record in a slot, and of one slot
abbrev pub overlaps : Record → Record → Bool
overlaps r x = one_stop_one_levelled r x && meet r.direction.0 x.direction.0 && overlap r.period x.period

abbrev pub overlap_at : List ℕ → Record → ℕ → Bool
overlap_at after r i =
    used (slot_at after i) && one_stop_one_levelled r (record_at after i) && meet r.direction.0 (record_at after i).direction.0
    && overlap r.period (record_at after i).period

abbrev pub minute_warnings : List ℕ → Head → ℕ
minute_warnings after h = worth 2 (warns_minute above_max after h) + worth 4 (warns_minute below_min after h)

unfoldable pub warnings_on : List ℕ → Head → Bool → ℕ
warnings_on after h left =
    pick (event_head h || vacates h) 0
    (worth 1 (warns_overlap after h) + minute_warnings after h + worth 8 (eqb h.record_type.0 stop && left))
