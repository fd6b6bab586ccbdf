use Rattle.std.proofs.Common.{arith, refl}
use Rattle.rules.specs.Block.{zeros_at}
use Rattle.fields.specs.Lists.{all, series}
use Rattle.block.proofs.ZeroStretches.{stretch-more, stretches-all}
use Rattle.block.proofs.all_zero.Goals as goal

pub loop-stretch-init : goal.loop-stretch-init
unfolding zeros_at all series
loop-stretch-init c = refl

pub loop-stretch-preserved : goal.loop-stretch-preserved
loop-stretch-preserved c = stretch-more c.args.z.now c.as_chunks.ensures.front _ c.loop-stretch.invariant (omega arith) c.is_zero-ok.ensures

pub returns : goal.returns
returns c = stretches-all c.args.z.now c.as_chunks.ensures.front _ c.loop-stretch.invariant (omega arith) c.as_chunks.ensures.back c.is_zero.ensures
