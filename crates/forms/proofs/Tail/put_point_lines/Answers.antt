use Rattle.std.proofs.Common.{arith, ◌≡◌, ◌-◌, refl}
use Rattle.report.specs.Report.{part_at}
use Rattle.forms.proofs.Putting.{same_text, points-none, points-more}
use Rattle.forms.proofs.Tail.put_point_lines.Goals as goal

pub loop-i-init : goal.loop-i-init
loop-i-init c = points-none c.args.h c.args.step (part_at c.args.report.now) _

pub loop-i-preserved : goal.loop-i-preserved
loop-i-preserved c =
    same_text refl (omega arith)
    (points-more c.args.h c.args.step (part_at c.args.report.now) c.part_count-k.result c.loop-i.i c.loop-i-test.true c.part_at.ensures
    c.put_point_line.ensures c.loop-i.invariant)

pub returns : goal.returns
returns c =
    let e : c.loop-i.i ≡ c.part_count-k.result = omega arith in
    let none : c.part_count-k.result - c.part_count-k.result ≡ 0 = omega arith in
    same_text refl (omega arith) (rw (e, none, c.part_count-k.ensures) at c.loop-i.invariant)
