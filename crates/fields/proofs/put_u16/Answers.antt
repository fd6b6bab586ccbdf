use Rattle.std.proofs.Common.{refl}
use Rattle.fields.specs.Fields.{bytes_of}
use Rattle.fields.proofs.put_u16.Goals as goal

pub returns : goal.returns
unfolding bytes_of
returns c = rw (c.put_bytes.ensures, c.to_le_bytes.ensures) refl
