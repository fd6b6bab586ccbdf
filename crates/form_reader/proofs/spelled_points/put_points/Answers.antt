use Rattle.std.proofs.Common.{arith}
use Rattle.form_reader.proofs.Counted.{counted_all, counted_most}
use Rattle.form_reader.proofs.PartsPut.{parts_none, parts_more}
use Rattle.form_reader.proofs.spelled_points.put_points.Goals as goal

pub loop-j-init : goal.loop-j-init
loop-j-init c =
    let first = c.spelled_point-here.ensures in
    parts_none first.read first.bounds.0 first.bounds.1 first.told c.put.ensures

pub returns-then-not-is_point-clause-count : goal.returns-then-not-is_point-clause-count
returns-then-not-is_point-clause-count c =
    counted_all c.loop-j.invariant.told.counted c.loop-j-test.true c.is_point.ensures c.if-not-is_point.true

pub loop-j-preserved : goal.loop-j-preserved
loop-j-preserved c =
    let next = c.spelled_point-ahead.ensures in
    parts_more c.loop-j.invariant c.loop-j-test.true c.is_point.ensures c.if-not-is_point.false c.is_point-more.ensures next.read next.bounds.0
    next.bounds.1 next.told c.part_of.ensures c.put_part.ensures

pub returns-clause-count : goal.returns-clause-count
returns-clause-count c = (counted_most c.loop-j.invariant.told.counted (omega arith)).0
