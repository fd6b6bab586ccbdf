use Rattle.std.proofs.Common.{rules}
use Rattle.fields.specs.Fields.{u8_at}
use Rattle.fields.proofs.Made.{made-series}
use Rattle.fields.proofs.padded.Goals as goal

pub returns : goal.returns
returns g c = made-series _ (u8_at c.args.s.now) g.row.N (λ i y q low called. (search rules, search rules)) c.from_fn.ensures.items
