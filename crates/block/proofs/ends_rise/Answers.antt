use native.Mathlib.Omega.{arith}
use mathlib.Core.Path.{ap}
use Rattle.block.specs.declared.Pair.{Pair}
use mir.Syntax.{w32}
use mir.ValLaws.{of_z-to_z}
use Rattle.block.proofs.Ends.{bits_back, bits_kept, risen-none, risen-more, risen-all, powers-found}
use Rattle.block.proofs.ends_rise.Goals as goal

pub loop-bytes-init : goal.loop-bytes-init
loop-bytes-init c = risen-none (omega arith) (bits_kept (omega arith) c.cast_signed-start.ensures)

pub loop-bytes-preserved : goal.loop-bytes-preserved
loop-bytes-preserved c =
    let kept = rw (of_z-to_z w32 c.loop-bytes.start-bits c.loop-bytes.auto.start-fits) at c.loop-bytes.invariant in
    let end = c.pair_in-pair.result.end.0 in
    rw (bits_kept {n = end} (omega arith) c.cast_signed-end.ensures, bits_back {n = end} (omega arith) c.cast_signed-end.ensures)
    (risen-more (omega arith) kept (omega arith) (omega arith)
    (ap (λ (p : Pair). p.end.0) c.pair_in-pair.ensures) (ap (λ (p : Pair). p.power.0) c.pair_in-pair.ensures))

pub returns : goal.returns
returns c =
    let kept = rw (of_z-to_z w32 c.loop-bytes.start-bits c.loop-bytes.auto.start-fits) at c.loop-bytes.invariant in
    record {
      rise_value = risen-all kept (omega arith) (bits_back (omega arith) c.cast_signed.ensures);
      powers_within = powers-found kept (omega arith);
    }
