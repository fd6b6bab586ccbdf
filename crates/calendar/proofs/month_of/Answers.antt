use native.Mathlib.Omega.{arith}
use Rattle.calendar.proofs.Months.{last-begun, not_first}
use Rattle.calendar.proofs.MonthSums.{month-here, month-before}
use Rattle.calendar.proofs.month_of.Goals as goal

pub overflow_sub-result : goal.overflow_sub-result
overflow_sub-result c = not_first c.month_start.ensures.0 c.if-month_start-day.false

pub returns-then-month_start-day-clause-month : goal.returns-then-month_start-day-clause-month
returns-then-month_start-day-clause-month c = month-here c.min-near.ensures c.month_start.ensures.0 c.if-month_start-day.true

pub returns-else-month_start-day-clause-month : goal.returns-else-month_start-day-clause-month
returns-else-month_start-day-clause-month c = month-before c.min-near.ensures c.month_start.ensures.0 c.if-month_start-day.false

pub returns-else-month_start-day-clause-begun : goal.returns-else-month_start-day-clause-begun
returns-else-month_start-day-clause-begun c =
    let found = month-before c.min-near.ensures c.month_start.ensures.0 c.if-month_start-day.false in
    (omega arith, rw found (last-begun 599 c.args.day).begun)
