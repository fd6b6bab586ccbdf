use Rattle.std.proofs.Common.{ap, ◌∙◌}
use Rattle.fields.proofs.Tests.{tested-none, tested-more, tested-all}
use Rattle.rules.specs.Records.{part_times}
use Rattle.validation.proofs.parts_are_times.Goals as goal

pub loop-i-init : goal.loop-i-init
loop-i-init c = tested-none

pub loop-i-preserved : goal.loop-i-preserved
loop-i-preserved c =
    tested-more c.loop-i.invariant c.loop-i-test.true (c.part_is_times-times.ensures ∙ ap part_times c.part_at.ensures)

pub returns : goal.returns
returns c = rw (← c.part_count-k.ensures) (tested-all c.loop-i.invariant c.loop-i-test.false)
