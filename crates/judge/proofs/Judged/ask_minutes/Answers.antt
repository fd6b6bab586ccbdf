use mathlib.Core.Path.{◌∙◌}
use native.Mathlib.Omega.{arith}
use Rattle.std.proofs.Common.{rules}
use Rattle.judge.proofs.Joins.{made-map}
use Rattle.judge.proofs.Judged.ask_minutes.Goals as goal

pub returns : goal.returns
returns c =
    let others = made-map c.args.slots (λ a. a.other) 8 (omega arith) c.map.ensures.items (λ p q x y called. search rules) in
    c.must.ensures ∙ rw (c.minutes_fit.ensures, others)
