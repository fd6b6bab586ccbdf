use Prim.Native.Nat.{◌*◌}
use mathlib.Core.Path.{◌≡◌, ◌∙◌}
use native.Mathlib.Omega.{arith}
use lib.ListN.{length}
use Rattle.rules.specs.Block.{block_size}
use Rattle.setup.proofs.Laws.{blocks-none, block_room, block-lent, blocks-all}
use Rattle.setup.proofs.write_blocks.Goals as goal

pub loop-i-init : goal.loop-i-init
loop-i-init c = (omega arith, blocks-none _ _)

pub write_fresh-requires : goal.write_fresh-requires
write_fresh-requires c = block_room c.loop-i.register (block_size * c.loop-i.i) (omega arith)

pub loop-i-preserved : goal.loop-i-preserved
loop-i-preserved c =
    block-lent _ _ _ _ c.entry_of-e.ensures c.loop-i.invariant.0 c.loop-i.invariant.1 (omega arith)
    c.write_fresh.auto.b c.write_fresh.ensures

pub returns : goal.returns
returns c =
    let e : c.loop-i.i ≡ length c.args.entries.now = omega arith in
    rw e at c.loop-i.invariant.1 ∙ blocks-all _ _ _ (omega arith)
