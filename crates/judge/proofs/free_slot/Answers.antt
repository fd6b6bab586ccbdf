use mathlib.Core.Path.{◌≡◌}
use mathlib.Core.Bool.{not}
use Rattle.std.proofs.Common.{arith, rules, tests}
use Rattle.std.proofs.lemmas.Grind.{common_steps}
use Rattle.std.proofs.lemmas.Iterator.{YieldsList-from_slice}
use Rattle.std.proofs.lemmas.Iterator.Search.{position_from_yields_List}
use Rattle.judge.specs.Survey.{free_among}
use Rattle.judge.proofs.free_slot.Goals as goal

pub returns : goal.returns
returns c =
    let found : c.position.result ≡ free_among c.args.slots = position_from_yields_List (λ a. not a.stays) _ _ c.position.result c.position.ensures.ran (YieldsList-from_slice c.args.slots (cc)) (λ x b q k. search (rules, tests)) in
    grind (arith, common_steps, found, c.map.ensures.cases)
