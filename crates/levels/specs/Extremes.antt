-- The lowest and the highest power of a type's lanes in a period: where these fit, every minute does.
use Rattle.std.specs.Prelude.{ℕ, ◌≤◌, ◌<◌, ◌≡◌, Bool, false, not, ◌&&◌, ◌||◌, List, eqb, get_or, min, max, Option, None, Some, option_map, ◌⊎◌}
use Rattle.std.specs.Option.{IfSome}
use Rattle.fields.specs.Lists.{pick, all, series}
use Rattle.quantities.specs.declared.Kilowatt.{Kilowatt}
use Rattle.quantities.specs.declared.Minute.{Minute}
use Rattle.quantities.specs.declared.Period.{Period}
use Rattle.rules.specs.Codes.{positive_derating, negative_derating, forced_work}
use Rattle.rules.specs.Block.{slot_count}
use Rattle.rules.specs.Questions.{record_of, record_at}
use Rattle.rules.specs.Minutes.{fits_beside}
use Rattle.levels.specs.declared.CountedTypes.{CountedTypes}
use Rattle.levels.specs.declared.Extremes.{Extremes}
use Rattle.levels.specs.declared.Lane.{Lane}
use Rattle.levels.specs.declared.Lanes.{Lanes}
use Rattle.levels.specs.declared.Limits.{Limits}
use Rattle.levels.specs.declared.Swept.{Swept}
use Rattle.levels.specs.Lanes.{lane_in, lane_pair, level_if_lane, type_level}

-- slot i counts and is of a type; some slot is
abbrev pub type_at : List ℕ → List Bool → ℕ → ℕ → Bool
type_at b counted type i = get_or counted i false && eqb (record_at b i).record_type.0 type

unfoldable pub some_of_type : List ℕ → List Bool → ℕ → Bool
some_of_type b counted type = not (all (λ i. not (type_at b counted type i)) (series (λ i. i) 0 slot_count))

abbrev pub with_type : CountedTypes → ℕ → CountedTypes
with_type types type = record {
  forced = types.forced || eqb type forced_work;
  positive = types.positive || eqb type positive_derating;
  negative = types.negative || eqb type negative_derating;
}

abbrev pub counted_types : List ℕ → List Bool → CountedTypes
counted_types b counted = record {
  forced = some_of_type b counted forced_work;
  positive = some_of_type b counted positive_derating;
  negative = some_of_type b counted negative_derating;
}

-- the report's record among them, where it counts
unfoldable pub swept_types : List ℕ → List ℕ → Swept → CountedTypes
swept_types b s swept =
    pick swept.with_report (with_type (counted_types b swept.counted) (record_of s).record_type.0) (counted_types b swept.counted)

-- forced work and a derating count
abbrev pub types_meet : CountedTypes → Bool
types_meet types = types.forced && (types.positive || types.negative)

-- lane i, or none where it has no level of the type in any minute of the period
abbrev pub LaneWithin : Lanes → ℕ → ℕ → Period → Option Lane → Type 0
LaneWithin ls i type period None = (k : ℕ) → period.start.0 ≤ k → k < period.end.0 → level_if_lane (lane_in ls i) (lane_pair ls i) type k ≡ None
LaneWithin ls i type period (Some lane) = lane_in ls i ≡ Some lane

-- a power lies between the two
pub record Between (e : Extremes) (p : Kilowatt) : Type 0 where
  pub low : e.lowest.0 ≤ p.0
  pub high : p.0 ≤ e.highest.0

-- a level does, where there is one
abbrev pub Covers : Extremes → Option Kilowatt → Type 0
Covers e l = IfSome l (Between e)

abbrev pub with_power : Extremes → Kilowatt → Extremes
with_power e p = record {
  lowest = record { 0 = min e.lowest.0 p.0 };
  highest = record { 0 = max e.highest.0 p.0 };
}

-- without extremes there is no level
abbrev pub CoversIfSome : Option Extremes → Option Kilowatt → Type 0
CoversIfSome None l = l ≡ None
CoversIfSome (Some e) l = Covers e l

-- the levels of a type in every minute of a period
pub record CoversType (ls : Lanes) (type : ℕ) (period : Period) (e : Option Extremes) : Type 0 where
  pub covers : (k : ℕ) → period.start.0 ≤ k → k < period.end.0 → CoversIfSome e (type_level ls type k)

abbrev pub highest_of : Option Extremes → Option Kilowatt
highest_of e = option_map (λ e. e.highest) e

-- the highest and the lowest forced level fit beside the highest deratings
abbrev pub extremes_fit : Limits → Extremes → Option Kilowatt → Option Kilowatt → Bool
extremes_fit u f p n = fits_beside u.kind.0 u.range f.highest.0 p n && fits_beside u.kind.0 u.range f.lowest.0 p n

-- the minutes of two periods
abbrev pub common : Period → Period → Period
common p q = record {
  start = record { 0 = max p.start.0 q.start.0 };
  end = record { 0 = min p.end.0 q.end.0 };
}

-- those of one or the other, and between them
abbrev pub joined_with : Period → Minute → Minute → Period
joined_with h from to = record {
  start = record { 0 = min h.start.0 from.0 };
  end = record { 0 = max h.end.0 to.0 };
}

pub record MinuteIn (h : Period) (k : ℕ) : Type 0 where
  pub from : h.start.0 ≤ k
  pub to : k < h.end.0

-- a level in minute k, where there is one, passes, or its minute is among those to be asked
abbrev pub Asks : (Kilowatt → Type 0) → Period → ℕ → Option Kilowatt → Type 0
Asks passes h k l = IfSome l (λ p. passes p ⊎ MinuteIn h k)

-- the levels of a type in every minute of a period
pub record AsksType (ls : Lanes) (type : ℕ) (period : Period) (passes : Kilowatt → Type 0) (h : Period) : Type 0 where
  pub asks : (k : ℕ) → period.start.0 ≤ k → k < period.end.0 → Asks passes h k (type_level ls type k)
