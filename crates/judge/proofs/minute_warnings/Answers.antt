use mathlib.Core.Path.{sym, ◌∙◌}
use native.Mathlib.Omega.{arith}
use Rattle.std.proofs.lemmas.Bool.{not-false}
use Rattle.rules.specs.After.{warns_minute}
use Rattle.levels.specs.Within.{level_warnings}
use Rattle.judge.proofs.Warnings.{block-counted}
use Rattle.judge.proofs.minute_warnings.Goals as goal

pub returns : goal.returns
unfolding warns_minute level_warnings
returns c = (
  rw (
    c.worth_of.ensures.0,
    c.worth_of-2.ensures.0,
    c.warn-g.ensures,
    c.limits_of-limits.ensures,
    c.unit_head-unit.ensures,
    c.used_slots-counted.ensures,
    block-counted c.args.after.now,
    not-false _ (sym c.ne.ensures ∙ c.if-ne.false),
  ),
  omega (arith, c.worth_of.ensures.1, c.worth_of-2.ensures.1),
)
