use Rattle.std.proofs.Common.{sym}
use Rattle.form_reader.proofs.SpelledDates.{date_told, none_told}
use Rattle.form_reader.proofs.spelled.date.Goals as goal

pub returns-in-Ok-clause-spelled : goal.returns-in-Ok-clause-spelled
returns-in-Ok-clause-spelled c = date_told c.args.s.now c.args.at c.in-Ok.m (rw c.part.ensures at (sym c.in-Ok.ensures))

pub returns-in-Err-clause-spelled : goal.returns-in-Err-clause-spelled
returns-in-Err-clause-spelled c = none_told c.args.s.now c.args.at (rw c.part.ensures at (sym c.in-Err.ensures))
