use mathlib.Core.Path.{◌≡◌, refl, ap}
use Rattle.std.proofs.Common.{rules}
use Rattle.report.specs.declared.Head.{Head}
use Rattle.report.specs.Report.{head_of, part_count_of}
use native.Mathlib.Omega.{arith}
use Rattle.fields.specs.Lists.{series, put}
use Rattle.rules.specs.After.{pair_bytes}
use Rattle.after.proofs.Written.{pairs_next}
use Rattle.after.proofs.Accepted.put_pairs.Goals as goal

pub loop-j-init : goal.loop-j-init
unfolding put series pair_bytes
loop-j-init c = (omega arith, omega arith, refl)

pub loop-j-preserved : goal.loop-j-preserved
loop-j-preserved c = (omega arith, omega arith, pairs_next _ _ _ c.loop-j.invariant.2 c.part_level-part.ensures c.put_pair.ensures)

pub returns : goal.returns
returns c =
    let s = c.args.self.now.report.now in
    let head : c.args.self.now.head ≡ head_of s = search rules in
    let all : c.args.self.now.head.part_count ≡ part_count_of s = ap (λ (h : Head). h.part_count) head in
    let e : c.loop-j.j ≡ part_count_of s = omega arith in
    rw e at c.loop-j.invariant.2
