-- Forced levels within the limits of warnings 2 and 4: where every pair's is, no minute is warned of.
use Rattle.std.specs.Prelude.{ℕ, List, Bool, false, not, ◌&&◌, ◌||◌, eqb, get_or}
use Rattle.fields.specs.Lists.{all, series}
use Rattle.rules.specs.declared.PowerRange.{PowerRange}
use Rattle.rules.specs.declared.Record.{Record}
use Rattle.rules.specs.Codes.{forced_work}
use Rattle.rules.specs.Block.{slot_at, stored_count}
use Rattle.rules.specs.Questions.{record_at}
use Rattle.rules.specs.Minutes.{FullRecord, is_high, is_low, above_max, below_min, levels_some}
use Rattle.block.specs.declared.Pair.{Pair}
use Rattle.block.specs.Slot.{pair_at}
use Rattle.levels.specs.declared.Limits.{Limits}
use Rattle.levels.specs.declared.LevelWarnings.{LevelWarnings}

-- what warnings 2 and 4 ask of the level itself
abbrev pub power_within : Limits → ℕ → Bool
power_within u level = not (is_high u.kind.0 u.range level) && not (is_low u.kind.0 u.range level)

-- of every pair of a slot
unfoldable pub pairs_within : List ℕ → Limits → Bool
pairs_within z u = all (λ (p : Pair). power_within u p.power.0) (series (pair_at z) 0 (stored_count z))

-- forced work of a direction
abbrev pub is_forced : Record → ℕ → Bool
is_forced r direction = eqb r.record_type.0 forced_work && eqb r.direction.0 direction

unfoldable pub slot_within : List ℕ → ℕ → ℕ → Limits → Bool
slot_within b i direction u = not (is_forced (record_at b i) direction) || pairs_within (slot_at b i) u

-- of every slot that counts
unfoldable pub forced_within : List ℕ → List Bool → ℕ → Limits → Bool
forced_within b counted direction u = all (λ i. not (get_or counted i false) || slot_within b i direction u) (series (λ i. i) 0 8)

-- warnings 2 and 4 in some minute of a period
unfoldable pub level_warnings : ℕ → PowerRange → List FullRecord → ℕ → ℕ → ℕ → LevelWarnings
level_warnings kind range ws direction start end = record {
  above = levels_some (above_max kind range) ws direction start end;
  below = levels_some (below_min kind range) ws direction start end;
}
