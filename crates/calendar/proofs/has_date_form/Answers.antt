use Rattle.std.proofs.Common.{rules, tests}
use Rattle.std.proofs.lemmas.Iterator.{YieldsList-from_slice}
use Rattle.std.proofs.lemmas.Iterator.Search.{all_from_yields_List}
use Rattle.fields.specs.Lists.{every, and_each}
use Rattle.calendar.specs.Digits.{is_digit, last_digits}
use Rattle.calendar.proofs.has_date_form.Goals as goal

pub returns-then-fixed : goal.returns-then-fixed
unfolding every and_each
returns-then-fixed c =
    let digits = all_from_yields_List is_digit _ _ c.all.result c.all.ensures.ran
    (YieldsList-from_slice (last_digits c.args.text.now) cc) (λ x b q k. search (rules, tests)) in
    rw c.if-fixed.true digits
