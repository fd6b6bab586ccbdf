use Rattle.batch.proofs.Batches.{first-whole, first-cut, first-none}
use Rattle.batch.proofs.first_report.Goals as goal

pub returns-then-length-input : goal.returns-then-length-input
returns-then-length-input c =
    first-whole c.args.input.now c.args.ended c.stated_length-length.ensures.value c.if-length-input.true

pub returns-then-ended-is_empty : goal.returns-then-ended-is_empty
returns-then-ended-is_empty c =
    first-cut c.args.input.now c.args.ended c.stated_length-length.ensures.value c.if-length-input.false
    c.is_empty.ensures c.if-ended-is_empty.true

pub returns-else-ended-is_empty : goal.returns-else-ended-is_empty
returns-else-ended-is_empty c =
    first-none c.args.input.now c.args.ended c.stated_length-length.ensures.value c.if-length-input.false
    c.is_empty.ensures c.if-ended-is_empty.false
