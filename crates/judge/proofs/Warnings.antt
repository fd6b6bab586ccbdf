-- The warnings from what the code finds. Assumes nothing.
use Prim.Native.Nat.{ℕ}
use mathlib.Core.Path.{◌≡◌, refl, ap}
use mathlib.Core.List.{List}
use native.Mathlib.Omega.{arith}
use Rattle.fields.specs.Lists.{pick, series}
use Rattle.report.specs.Report.{head_of}
use Rattle.rules.specs.Block.{slot_at, used}
use Rattle.rules.specs.Questions.{leaves}
use Rattle.rules.specs.Minutes.{block_records, records_among}
use Rattle.rules.specs.After.{block_after, some_slot, warns_left, warnings}
use Rattle.levels.specs.Counted.{counted_records}
use Rattle.judge.specs.Warned.{warnings_on}

pub block-counted : (b : List ℕ) → counted_records b (series (λ i. used (slot_at b i)) 0 8) ≡ block_records b
unfolding block_records records_among series
block-counted b = refl

-- they are the warnings of the paper
pub warnings-same : (b s : List ℕ) → warnings_on (block_after b s) (head_of s) (some_slot (leaves b s)) ≡ warnings b s
unfolding warnings_on warnings warns_left
warnings-same b s = ap (pick _ 0) (omega arith)
