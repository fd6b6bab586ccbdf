use Rattle.std.proofs.Common.{◌<◌, arith}
use Rattle.fields.proofs.Tests.{tested-none, tested-more, tested-all}
use Rattle.report.proofs.Marks.{lent-parts, count, marked-there}
use Rattle.report.proofs.parts_marked.Goals as goal

pub loop-part-init : goal.loop-part-init
loop-part-init c = tested-none

pub loop-part-preserved : goal.loop-part-preserved
loop-part-preserved c =
    let s = c.args.report.now in
    let lent = lent-parts s c.args.k in
    let there = count s c.args.k c.requires lent c.as_chunks.ensures.front in
    let low : c.loop-part.part-index < c.args.k = omega (arith, there, c.as_chunks.ensures.front_len, c.loop-part-test.true) in
    tested-more c.loop-part.invariant low
    (marked-there s c.args.k c.requires lent c.as_chunks.ensures.front c.loop-part.part-index low c.part_marked-ok.ensures)

pub returns : goal.returns
returns c =
    let there = count c.args.report.now c.args.k c.requires (lent-parts c.args.report.now c.args.k) c.as_chunks.ensures.front in
    tested-all c.loop-part.invariant (omega (arith, there, c.as_chunks.ensures.front_len, c.loop-part-test.false))
