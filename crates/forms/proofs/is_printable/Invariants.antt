use Rattle.std.proofs.Common.{length}
use Rattle.fields.specs.Fields.{u8_at}
use Rattle.fields.proofs.Tests.{Tested}
use Rattle.forms.specs.Form.{printable}
use Rattle.forms.proofs.is_printable.Given as goal

abbrev pub invariant-loop-c : goal.invariant-loop-c
invariant-loop-c l = Tested printable (u8_at l.text) (length l.text) l.ok l.c-index
