use Rattle.std.proofs.Common.{rules}
use Rattle.judge.specs.Survey.{answers_at, survey_of}
use Rattle.fields.proofs.Made.{made-series}
use Rattle.judge.proofs.Placed.survey_slots.Goals as goal

pub returns : goal.returns
unfolding survey_of
returns c = made-series _ (answers_at c.args.b.now c.args.self.head c.args.self.slot c.args.self.changes) 8 (λ i y q low called. (search rules, search rules)) c.from_fn.ensures.items
