use mathlib.Core.Bool.{and-true}
use Rattle.fields.specs.Lists.{every, and_each, all}
use Rattle.rules.specs.Records.{fields_in_range}
use Rattle.records.proofs.fields_in_range.Goals as goal

pub returns : goal.returns
unfolding fields_in_range every and_each all
returns c = rw and-true (cc)
