-- What "for each minute" needs of a part: its end and its power, in a report and in a slot alike.
use Rattle.std.specs.Prelude.{ℕ, ◌-◌, ◌≤◌, ◌≡◌, List, [], ◌∷◌, Option, None, Some, ltb}
use Rattle.fields.specs.Lists.{pick, series}
use Rattle.quantities.specs.declared.Kilowatt.{Kilowatt}
use Rattle.report.specs.Report.{part_level}
use Rattle.block.specs.declared.Pair.{Pair}
use Rattle.block.specs.Slot.{pair_at}
use Rattle.levels.specs.declared.Source.{Source}
use Rattle.levels.specs.declared.Source.TheVariants.{Report, Slot}

-- part j of a report
abbrev pub report_pair : List ℕ → ℕ → Pair
report_pair s j = record { end = (part_level s j).end; power = (part_level s j).power }

-- the parts of a report, or the pairs of a slot
abbrev pub pairs_of : Source → ℕ → Pair
pairs_of (Report s) = report_pair s.now
pairs_of (Slot z) = pair_at z.now

-- the power of the first pair that ends after the minute
unfoldable pub level_among_pairs : List Pair → ℕ → Option Kilowatt
level_among_pairs [] m = None
level_among_pairs (p ∷ ps) m = pick (ltb m p.end.0) (Some p.power) (level_among_pairs ps m)

-- of n pairs those before j have ended by minute m: from m on only the others count
pub record Passed (f : ℕ → Pair) (n j m : ℕ) : Type 0 where
  pub most : j ≤ n
  pub rest : (k : ℕ) → m ≤ k → level_among_pairs (series f 0 n) k ≡ level_among_pairs (series f j (n - j)) k
