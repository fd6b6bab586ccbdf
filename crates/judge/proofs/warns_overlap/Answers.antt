use Rattle.std.proofs.Common.{rules, tests, arith, ◌∙◌}
use Rattle.std.proofs.lemmas.Iterator.{YieldsList-from_range}
use Rattle.std.proofs.lemmas.Iterator.Search.{any_from_yields_List}
use Rattle.rules.specs.After.{warns_overlap, some_slot}
use Rattle.judge.proofs.Ranges.{range-any}
use Rattle.judge.specs.Warned.{overlap_at}
use Rattle.judge.proofs.warns_overlap.Goals as goal

pub returns : goal.returns
unfolding warns_overlap some_slot
returns c =
    let test = overlap_at c.args.after.now c.record_by-r.result in
    let found = any_from_yields_List test _ _ c.any.result c.any.ensures.ran (YieldsList-from_range 0 8 8 (cc) (omega arith)) (λ x b q k. search (rules, tests)) in
    rw c.record_by-r.ensures at (found ∙ range-any test 0 8)
