use Rattle.std.proofs.Common.{rules, tests, arith, ◌&&◌}
use Rattle.std.proofs.lemmas.Iterator.{YieldsList-from_range}
use Rattle.std.proofs.lemmas.Iterator.Search.{find_from_yields_List}
use Rattle.rules.specs.Questions.{live, record_at}
use Rattle.rules.specs.Records.{same_identifier}
use Rattle.judge.proofs.Joins.{found-slot}
use Rattle.judge.specs.Survey.{holder_of}
use Rattle.judge.proofs.find_holder.Goals as goal

pub returns : goal.returns
unfolding holder_of
returns c = found-slot _ (find_from_yields_List (λ i. live c.args.b.now c.args.r.stamp.0 i && same_identifier c.args.r (record_at c.args.b.now i)) _ _ c.find.result c.find.ensures.ran (YieldsList-from_range 0 8 8 (cc) (omega arith)) (λ x b q k. search (rules, tests)))
