use Rattle.std.proofs.Common.{arith}
use Rattle.std.proofs.lemmas.Grind.{common_steps}
use Rattle.std.proofs.lemmas.Bool.Decides.{nat_tests}
use Rattle.fields.specs.Lists.{every, and_each, pick}
use Rattle.rules.specs.Records.{kind_allows}
use Rattle.records.proofs.kind_allows.Goals as goal

pub returns : goal.returns
unfolding kind_allows every and_each pick
returns c = grind (arith, nat_tests, common_steps)
