-- What a closure gathers of the pairs of some lanes: step e from p r says that it makes r of e and a pair p whose minutes begin at `from`.
use Rattle.std.specs.Prelude.{ℕ, zero, suc, ◌+◌, ◌≡◌, List, [], ◌∷◌, Option, None, Some}
use Rattle.fields.specs.Lists.{series}
use Rattle.quantities.specs.declared.Minute.{Minute}
use Rattle.quantities.specs.declared.Period.{Period}
use Rattle.block.specs.declared.Pair.{Pair}
use Rattle.levels.specs.declared.Lane.{Lane}
use Rattle.levels.specs.declared.Lanes.{Lanes}
use Rattle.levels.specs.Lanes.{lane_pair}
use Rattle.levels.specs.Extremes.{LaneWithin}

module _ {G : Type 0} (step : G → Minute → Pair → G → Type 0) where
  -- r is made of e and pairs in turn; the minutes of each begin where the one before it ends
  unfoldable pub GathersPairs : List Pair → Minute → G → G → Type 0
  GathersPairs [] from e r = r ≡ e
  GathersPairs (p ∷ ps) from e r = (t : G) × step e from p t × GathersPairs ps p.end t r

  -- of the pairs f of a lane, where there is one
  abbrev pub GathersLane : Option Lane → (ℕ → Pair) → G → G → Type 0
  GathersLane None f e r = r ≡ e
  GathersLane (Some lane) f e r = GathersPairs (series f 0 lane.count) lane.period.start e r

  -- of the lanes i, i + 1, .. , n of them, that are of a type and within a period
  unfoldable pub GathersLanes : Lanes → ℕ → Period → ℕ → ℕ → G → G → Type 0
  GathersLanes ls type period i zero e r = r ≡ e
  GathersLanes ls type period i (suc n) e r =
      (lane : Option Lane) × (t : G) × LaneWithin ls i type period lane × GathersLane lane (lane_pair ls i) e t
      × GathersLanes ls type period (i + 1) n t r
