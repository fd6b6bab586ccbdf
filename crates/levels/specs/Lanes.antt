-- The records of a sweep as lanes: lane 0 is the report's, lane i + 1 that of slot i.
use Rattle.std.specs.Prelude.{ℕ, zero, suc, ◌+◌, ◌≤◌, ◌<◌, ◌≡◌, List, true, false, ◌&&◌, leb, ltb, eqb, length, get_or, min, Option, None, Some, is_some}
use Rattle.std.specs.Option.{option_or, IfSome}
use Rattle.fields.specs.Lists.{pick, series}
use Rattle.quantities.specs.declared.Kilowatt.{Kilowatt}
use Rattle.quantities.specs.declared.Minute.{Minute}
use Rattle.report.specs.Report.{part_count_of}
use Rattle.rules.specs.declared.Levels.{Levels}
use Rattle.rules.specs.declared.Record.{Record}
use Rattle.rules.specs.Codes.{positive_derating, negative_derating, forced_work}
use Rattle.rules.specs.Block.{slot_count, slot_at, stored_count}
use Rattle.rules.specs.Questions.{record_of, record_at}
use Rattle.block.specs.declared.Pair.{Pair}
use Rattle.block.specs.Slot.{pair_at}
use Rattle.levels.specs.declared.Choice.{Choice}
use Rattle.levels.specs.declared.Choices.{Choices}
use Rattle.levels.specs.declared.Lane.{Lane}
use Rattle.levels.specs.declared.Lanes.{Lanes}
use Rattle.levels.specs.declared.LaneSpan.{LaneSpan}
use Rattle.levels.specs.declared.LevelSpan.{LevelSpan}
use Rattle.levels.specs.declared.Place.{Place}
use Rattle.levels.specs.declared.Swept.{Swept}
use Rattle.levels.specs.Pairs.{report_pair, pairs_of, level_among_pairs, Passed}
use Rattle.levels.specs.Stays.{Stays}

-- the report's lane and one for each slot
abbrev pub lane_count : ℕ
lane_count = slot_count + 1

-- a record of k pairs, if it is of a direction
unfoldable pub lane_of : Record → ℕ → ℕ → Option Lane
lane_of r k direction =
    pick (eqb r.direction.0 direction) (Some (record { record_type = r.record_type; period = r.period; count = k })) None

abbrev pub report_lane : List ℕ → ℕ → Option Lane
report_lane s direction = lane_of (record_of s) (part_count_of s) direction

abbrev pub slot_lane : List ℕ → ℕ → ℕ → Option Lane
slot_lane b i direction = lane_of (record_at b i) (stored_count (slot_at b i)) direction

unfoldable pub lane_at : List ℕ → List ℕ → Swept → ℕ → ℕ → Option Lane
lane_at b s swept direction zero = pick swept.with_report (report_lane s direction) None
lane_at b s swept direction (suc i) = pick (get_or swept.counted i false) (slot_lane b i direction) None

-- the pairs of lane i, in the report s or in a slot of the block b
unfoldable pub lane_pairs : List ℕ → List ℕ → ℕ → ℕ → Pair
lane_pairs b s zero = report_pair s
lane_pairs b s (suc i) = pair_at (slot_at b i)

abbrev pub lane_pair : Lanes → ℕ → ℕ → Pair
lane_pair ls = lane_pairs ls.block.now ls.report.now

-- lane i of those that code keeps
abbrev pub lane_in : Lanes → ℕ → Option Lane
lane_in ls i = get_or ls.each i None

-- a lane's level in minute m, where it is of this type and holds the minute
unfoldable pub lane_level : Lane → (ℕ → Pair) → ℕ → ℕ → Option Kilowatt
lane_level lane f type m =
    pick (eqb lane.record_type.0 type && leb lane.period.start.0 m && ltb m lane.period.end.0)
    (level_among_pairs (series f 0 lane.count) m)
    None

abbrev pub level_if_lane : Option Lane → (ℕ → Pair) → ℕ → ℕ → Option Kilowatt
level_if_lane None f type m = None
level_if_lane (Some lane) f type m = lane_level lane f type m

-- the first level of a type among the lanes i, i + 1, .. , n of them
unfoldable pub level_among_lanes : (ℕ → Option Lane) → (ℕ → ℕ → Pair) → ℕ → ℕ → ℕ → ℕ → Option Kilowatt
level_among_lanes lane f type i zero m = None
level_among_lanes lane f type i (suc n) m = option_or (level_if_lane (lane i) (f i) type m) (level_among_lanes lane f type (i + 1) n m)

-- the level of a type among all lanes
abbrev pub type_level : Lanes → ℕ → ℕ → Option Kilowatt
type_level ls type m = level_among_lanes (lane_in ls) (lane_pair ls) type 0 lane_count m

unfoldable pub lane_levels : Lanes → ℕ → Levels
lane_levels ls m = record {
  forced = type_level ls forced_work m;
  positive = type_level ls positive_derating m;
  negative = type_level ls negative_derating m;
}

-- what a step in a lane of n pairs promises of its level and its place
pub record Stepped (f : ℕ → Pair) (n m : ℕ) (level : ℕ → Option Kilowatt) (r : LaneSpan) : Type 0 where
  pub stays : Stays level m r.span
  pub passed : Passed f n r.place m
  pub ends : is_some r.span.level ≡ true → m < (f r.place).end.0

-- in every lane the pairs before its place have ended
pub record Placed (ls : Lanes) (places : List ℕ) (m : ℕ) : Type 0 where
  pub size : length places ≡ lane_count
  pub at : (i : ℕ) → i < lane_count → IfSome (lane_in ls i) (λ lane. Passed (lane_pair ls i) lane.count (get_or places i 0) m)

-- up to `until` a lane has a level: that of its pairs
pub record Held (f : ℕ → Pair) (lane : Lane) (m until : ℕ) : Type 0 where
  pub later : m < until
  pub there : (k : ℕ) → m ≤ k → k < until → is_some (level_among_pairs (series f 0 lane.count) k) ≡ true
  pub same : (k : ℕ) → m ≤ k → k < until
      → lane_level lane f lane.record_type.0 k ≡ level_among_pairs (series f 0 lane.count) k

-- the level among the pairs of a place
abbrev pub level_of : Place → ℕ → Option Kilowatt
level_of p m = level_among_pairs (series (pairs_of p.pairs) 0 p.count) m

abbrev pub place_level : Option Place → ℕ → Option Kilowatt
place_level None m = None
place_level (Some p) m = level_of p m

abbrev pub chosen_levels : Choices → ℕ → Levels
chosen_levels cs m = record {
  forced = place_level cs.forced.at m;
  positive = place_level cs.positive.at m;
  negative = place_level cs.negative.at m;
}

-- a place at minute m: its pairs hold each minute before `until`, and those before it have ended
pub record Ahead (p : Place) (m until : ℕ) : Type 0 where
  pub there : (k : ℕ) → m ≤ k → k < until → is_some (level_of p k) ≡ true
  pub passed : Passed (pairs_of p.pairs) p.count p.place m

-- and its own has not
pub record Begun (p : Place) (m until : ℕ) : Type 0 where
  pub ahead : Ahead p m until
  pub ends : m < (pairs_of p.pairs p.place).end.0

-- what a choice at minute m promises: a type's level up to `until` is that of the lane chosen
pub record Standing (m : ℕ) (c : Choice) : Type 0 where
  pub later : m < c.until.0
  pub begun : IfSome c.at (λ p. Begun p m c.until.0)

pub record Chosen (ls : Lanes) (type m : ℕ) (c : Choice) : Type 0 where
  pub stands : Standing m c
  pub same : (k : ℕ) → m ≤ k → k < c.until.0 → type_level ls type k ≡ place_level c.at k

pub record Ready (cs : Choices) (m : ℕ) : Type 0 where
  pub forced : Standing m cs.forced
  pub positive : Standing m cs.positive
  pub negative : Standing m cs.negative

-- up to which minute they all stay
abbrev pub soonest : Choices → Minute → ℕ
soonest cs end = min (min (min cs.forced.until.0 cs.positive.until.0) cs.negative.until.0) end.0

-- the level at a place, up to the end of the pair there
abbrev pub span_at : Option Place → LevelSpan
span_at None = record { level = None; until = record { 0 = 4294967295 } }
span_at (Some p) = record {
  level = Some (pairs_of p.pairs p.place).power;
  until = (pairs_of p.pairs p.place).end;
}

-- one further where the pair there has ended
abbrev pub moved : Option Place → ℕ → ℕ → Option Place
moved None end m = None
moved (Some p) end m = Some (record {
  pairs = p.pairs;
  count = p.count;
  place = pick (leb end m) (p.place + 1) p.place;
})
