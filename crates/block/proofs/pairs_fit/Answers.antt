use mathlib.Core.Path.{sym, ◌∙◌}
use borrow.Author.Tests.{leb-true}
use Rattle.block.proofs.Ends.{ends-enough}
use Rattle.block.proofs.pairs_fit.Goals as goal

pub returns-then-is_power : goal.returns-then-is_power
returns-then-is_power c =
    let found = c.ends_rise-found.ensures in
    let in_range = leb-true _ _ (sym c.is_power.ensures ∙ c.if-is_power.true) in
    found.rise_value ∙ ends-enough _ _ _ _ found.powers_within in_range
