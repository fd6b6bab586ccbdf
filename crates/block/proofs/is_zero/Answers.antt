use Rattle.std.proofs.Common.{rules, ◌≡◌}
use Rattle.std.specs.List.{fold}
use lib.Bits.{bit_or}
use Rattle.block.proofs.ZeroStretches.{bits-zero}
use Rattle.block.proofs.is_zero.Goals as goal

pub returns : goal.returns
returns c =
    let e : c.fold.result ≡ fold (λ bits b. bit_or bits b) 0 c.args.z.now = search rules in
    bits-zero c.args.z.now e
