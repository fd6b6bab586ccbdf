use Rattle.std.proofs.Common.{◌∙◌, arith}
use Rattle.rules.specs.Questions.{identifier_zero}
use Rattle.records.proofs.Identifiers.{compared-zero}
use Rattle.records.proofs.identifier_zero.Goals as goal

pub returns : goal.returns
unfolding identifier_zero
returns c = c.eq.ensures ∙ compared-zero 16 c.args.r.identifier (omega arith)
