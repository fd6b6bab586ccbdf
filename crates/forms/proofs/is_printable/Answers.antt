use Rattle.std.proofs.Common.{refl, ◌∙◌, ap}
use Rattle.fields.specs.Lists.{all}
use Rattle.fields.proofs.Tests.{tested-none, tested-more, tested-all}
use Rattle.forms.specs.Form.{printable}
use Rattle.forms.proofs.Formed.{series-self}
use Rattle.forms.proofs.is_printable.Goals as goal

pub loop-c-init : goal.loop-c-init
loop-c-init c = tested-none

pub loop-c-preserved : goal.loop-c-preserved
loop-c-preserved c = tested-more c.loop-c.invariant c.loop-c-test.true refl

pub returns : goal.returns
returns c = tested-all c.loop-c.invariant c.loop-c-test.false ∙ ap (all printable) (series-self c.args.text.now)
