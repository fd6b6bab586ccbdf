use Rattle.std.proofs.Common.{◌∙◌, arith}
use Rattle.rules.specs.Records.{same_identifier}
use Rattle.records.proofs.Identifiers.{compared}
use Rattle.records.proofs.same_identifier.Goals as goal

pub returns : goal.returns
unfolding same_identifier
returns c = c.eq.ensures ∙ compared 16 c.args.x.identifier c.args.y.identifier (omega arith) (omega arith)
