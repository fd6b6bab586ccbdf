use Rattle.std.proofs.Common.{arith, rules}
use borrow.Author.Tests.{le-leb, lt-leb}
use Rattle.fields.specs.Lists.{pick}
use Rattle.forms.specs.Lent.{length_given, buffer_after}
use Rattle.forms.proofs.lay.Goals as goal

pub returns-then-buffer-bytes : goal.returns-then-buffer-bytes
unfolding length_given buffer_after pick
returns-then-buffer-bytes c =
    let no = lt-leb _ _ c.if-buffer-bytes.true in
    record { value = rw no; buffer_after = rw no; bounds = search rules }

pub returns : goal.returns
unfolding length_given buffer_after pick
returns c =
    let yes = le-leb _ _ c.if-buffer-bytes.false in
    record { value = rw yes; buffer_after = rw yes c.put_bytes.ensures; bounds = (omega arith, omega arith) }
