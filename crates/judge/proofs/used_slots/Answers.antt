use Rattle.std.proofs.Common.{rules}
use Rattle.rules.specs.Block.{slot_at, used}
use Rattle.fields.proofs.Made.{made-series}
use Rattle.judge.proofs.used_slots.Goals as goal

pub returns : goal.returns
returns c = made-series _ (λ i. used (slot_at c.args.b.now i)) 8 (λ i y q low called. (search rules, search rules)) c.from_fn.ensures.items
