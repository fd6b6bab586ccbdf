use Prim.Native.Nat.{◌<◌}
use mathlib.Core.Path.{◌≡◌, refl}
use mathlib.Core.Bool.{true}
use native.Mathlib.Omega.{arith}
use Rattle.fields.specs.Lists.{pick}
use Rattle.calendar.specs.Calendar.{days_in}
use Rattle.calendar.proofs.Months.{ruled, table_at, start-mono}
use Rattle.calendar.proofs.Dates.{years-end}
use Rattle.calendar.proofs.month_start.Goals as goal

-- `rw` finds the code's table in the fact. There the test, `ruled 0 0 ..`, computes to `true`.
pub returns : goal.returns
unfolding pick days_in ruled
returns c =
    let within : c.args.month < 600 = omega arith in
    let passes : true ≡ true = refl in
    let start = rw table_at at c.from.ensures in
    (start, omega (arith, start, start-mono c.args.month 600 (omega arith), years-end))
