use Rattle.std.proofs.Common.{refl}
use Rattle.fields.specs.Ascii.{ascii}
use Rattle.log_lines.proofs.Shown.{shown-more}
use Rattle.log_lines.proofs.put_shown.Goals as goal

pub loop-b-preserved : goal.loop-b-preserved
loop-b-preserved c = shown-more 3 (ascii " | ") c.args.remark.now c.loop-b-test.true refl c.loop-b.invariant c.put_shown_byte.ensures
