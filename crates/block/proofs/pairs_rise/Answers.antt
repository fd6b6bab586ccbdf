use Rattle.std.proofs.Common.{◌≡◌, ap, arith}
use Rattle.block.specs.declared.Pair.{Pair}
use Rattle.std.proofs.lemmas.Grind.{common_steps}
use Rattle.std.proofs.lemmas.Bool.Decides.{nat_tests}
use lib.Dec.{ltb}
use Rattle.block.proofs.Pairs.{risen-none, risen-more, risen-all}
use Rattle.block.proofs.pairs_rise.Goals as goal

pub loop-bytes-init : goal.loop-bytes-init
loop-bytes-init c = risen-none

pub loop-bytes-preserved : goal.loop-bytes-preserved
loop-bytes-preserved c =
    let e : c.lt.result ≡ ltb c.loop-bytes.start.0 c.pair_in.result.end.0 = grind (arith, nat_tests, common_steps) in
    rw e (risen-more c.loop-bytes.invariant (omega arith) (ap (λ (p : Pair). p.end.0) c.pair_in.ensures) (ap (λ (p : Pair). p.power.0) c.pair_in.ensures) c.is_power.ensures)

pub returns : goal.returns
returns c = rw c.eq.ensures (risen-all c.loop-bytes.invariant (omega arith))
