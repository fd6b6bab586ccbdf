use Rattle.std.proofs.Common.{w32}
use Rattle.std.specs.Int.{from_le_bytes, to_le_bytes}
use Rattle.std.proofs.lemmas.Nat.{le_bytes_4}
use Rattle.form_reader.proofs.Words
use Rattle.form_reader.proofs.spelled.same_4.Goals as goal

pub returns : goal.returns
returns c =
    Words.same_as 4 (from_le_bytes w32) (to_le_bytes w32) le_bytes_4 c.args.a.now c.args.b.now c.args.at (λ i. (c.type_inv.a i).fits) (λ i. (c.type_inv.b i).fits) c.bytes_at.ensures c.bytes_at-2.ensures
    c.from_le_bytes-word.ensures c.from_le_bytes.ensures
