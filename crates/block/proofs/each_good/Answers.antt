use Rattle.std.proofs.Common.{arith, ap, refl, length, ◌+◌, ◌∙◌, []}
use Rattle.std.proofs.lemmas.List.{get_or_read_under}
use Rattle.fields.proofs.Tests.{tested-none, tested-more, tested-all, tested-fails}
use Rattle.block.proofs.each_good.Goals as goal

pub loop-i-init : goal.loop-i-init
loop-i-init g c = tested-none

pub returns-then-not-is_good : goal.returns-then-not-is_good
returns-then-not-is_good g c =
    let here = get_or_read_under c.args.pieces.now c.loop-i.i (length c.args.pieces.now) c.index-pieces-i.result [] c.index-pieces-i.is (omega arith) refl in
    tested-fails c.loop-i.invariant (omega arith) (c.is_good.ensures ∙ ap (g.P.Pieces.good (c.loop-i.i + 1)) here) c.if-not-is_good.true

pub loop-i-preserved : goal.loop-i-preserved
loop-i-preserved g c =
    let here = get_or_read_under c.args.pieces.now c.loop-i.i (length c.args.pieces.now) c.index-pieces-i.result [] c.index-pieces-i.is (omega arith) refl in
    rw c.if-not-is_good.false at (tested-more c.loop-i.invariant (omega arith) (c.is_good.ensures ∙ ap (g.P.Pieces.good (c.loop-i.i + 1)) here))

pub returns : goal.returns
returns g c = tested-all c.loop-i.invariant (omega arith)
