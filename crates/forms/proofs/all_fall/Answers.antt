use Rattle.std.proofs.Common.{ap, ◌∙◌}
use mathlib.Core.Bool.{and-false}
use Rattle.fields.proofs.Tests.{tested-none, tested-more, tested-all, tested-fails}
use Rattle.report.specs.declared.Part.{Part}
use Rattle.forms.specs.Form.{all_fall, falls}
use Rattle.forms.proofs.all_fall.Goals as goal

pub returns-then-not-falls : goal.returns-then-not-falls
unfolding all_fall
returns-then-not-falls c = rw (← c.falls.ensures, c.if-not-falls.true)

pub loop-i-init : goal.loop-i-init
loop-i-init c = tested-none

pub loop-i-preserved : goal.loop-i-preserved
loop-i-preserved c =
    let e = c.falls-in-loop-i.ensures ∙ ap (λ (p : Part). falls c.args.h c.args.step p.period.start) c.part_at.ensures in
    rw c.if-not-falls-2.false at (tested-more c.loop-i.invariant c.loop-i-test.true e)

pub returns-then-not-falls-2 : goal.returns-then-not-falls-2
unfolding all_fall
returns-then-not-falls-2 c =
    let e = c.falls-in-loop-i.ensures ∙ ap (λ (p : Part). falls c.args.h c.args.step p.period.start) c.part_at.ensures in
    let none = tested-fails c.loop-i.invariant c.loop-i-test.true e c.if-not-falls-2.true in
    rw (← c.part_count-k.ensures, ← none, and-false)

pub returns : goal.returns
unfolding all_fall
returns c =
    let each = tested-all c.loop-i.invariant c.loop-i-test.false in
    rw (← c.part_count-k.ensures, ← each, ← c.falls.ensures, c.if-not-falls.false)
