use Rattle.std.proofs.Common.{◌≡◌, ◌/◌}
use native.Mathlib.Nat.{div-div-eq-div-mul}
use Rattle.fields.specs.Fields.{bytes_of}
use Rattle.fields.proofs.put_u32.Goals as goal

pub returns : goal.returns
unfolding bytes_of
returns c =
    let v = c.args.v in
    let two : v / 256 / 256 ≡ v / 65536 = div-div-eq-div-mul v 256 256 in
    let three : v / 65536 / 256 ≡ v / 16777216 = div-div-eq-div-mul v 65536 256 in
    rw (c.put_bytes.ensures, c.to_le_bytes-bytes.ensures) (rw (two, three))
