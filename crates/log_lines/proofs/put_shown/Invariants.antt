use Rattle.std.proofs.Common.{◌+◌, ◌*◌, ◌++◌, take}
use Rattle.fields.specs.Ascii.{ascii}
use Rattle.texts.specs.Texts.{Writes}
use Rattle.log_lines.specs.Remarks.{shown}
use Rattle.log_lines.proofs.put_shown.Given as goal

abbrev pub invariant-loop-b : goal.invariant-loop-b
invariant-loop-b l = Writes (3 + 4 * l.b-index) l.fn.text (ascii " | " ++ shown (take l.b-index l.remark)) l.text
