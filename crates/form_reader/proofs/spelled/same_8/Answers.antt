use Rattle.std.proofs.Common.{w64}
use Rattle.std.specs.Int.{from_le_bytes, to_le_bytes}
use Rattle.std.proofs.lemmas.Nat.{le_bytes_8}
use Rattle.form_reader.proofs.Words
use Rattle.form_reader.proofs.spelled.same_8.Goals as goal

pub returns : goal.returns
returns c =
    Words.same_as 8 (from_le_bytes w64) (to_le_bytes w64) le_bytes_8 c.args.a.now c.args.b.now c.args.at (λ i. (c.type_inv.a i).fits) (λ i. (c.type_inv.b i).fits) c.bytes_at.ensures c.bytes_at-2.ensures
    c.from_le_bytes-word.ensures c.from_le_bytes.ensures
