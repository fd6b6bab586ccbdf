use Rattle.std.proofs.Common.{arith}
use Rattle.report.specs.Report.{marked}
use Rattle.report.proofs.Sizes.{sized-is}
use Rattle.report.proofs.marks_fit.Goals as goal

pub parts_marked-requires : goal.parts_marked-requires
parts_marked-requires c =
    let s = sized-is c.args.report.now c.requires in
    omega (arith, s.long, c.u16_at-k.ensures)

pub returns : goal.returns
unfolding marked
returns c = cc
