use borrow.Author.Tests.{le-leb, lt-leb}
use Rattle.fields.specs.Lists.{pick}
use Rattle.levels.proofs.Spans.{at_most, not_at_most}
use Rattle.levels.proofs.moved.Goals as goal

pub returns-then-le : goal.returns-then-le
unfolding pick
returns-then-le c = rw (c.in-Some.is, le-leb _ _ (at_most _ _ c.le.ensures c.if-le.true))

pub returns : goal.returns
unfolding pick
returns c = rw (c.in-Some.is, lt-leb _ _ (not_at_most _ _ c.le.ensures c.if-le.false))
