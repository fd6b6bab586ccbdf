use Rattle.std.proofs.Common.{arith, refl, length, ◌≡◌}
use Rattle.forms.proofs.Putting.{same_text, hex-none, hex-more}
use Rattle.forms.proofs.Tail.put_hex.Goals as goal

pub loop-i-init : goal.loop-i-init
loop-i-init c =
    let size : length c.args.identifier.now ≡ 16 = omega arith in
    hex-none c.args.identifier.now size

pub loop-i-preserved : goal.loop-i-preserved
loop-i-preserved c =
    let size : length c.args.identifier.now ≡ 16 = omega arith in
    same_text refl (omega arith) (hex-more c.args.identifier.now size c.loop-i-test.true refl
    (same_text c.hex_digits.ensures (omega arith) c.put.ensures) c.loop-i.invariant)

pub returns : goal.returns
returns c =
    let e : c.loop-i.i ≡ 16 = omega arith in
    rw e at c.loop-i.invariant
