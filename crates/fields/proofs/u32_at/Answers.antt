use Rattle.std.proofs.Common.{arith}
use Rattle.fields.specs.Lists.{series}
use Rattle.fields.specs.Fields.{uint_at}
use Rattle.fields.proofs.u32_at.Goals as goal

pub returns : goal.returns
unfolding series uint_at
returns c = rw (c.from_le_bytes.ensures, c.bytes_at.ensures) (omega arith)
