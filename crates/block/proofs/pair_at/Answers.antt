use Rattle.std.proofs.Common.{arith, add-zero, ◌∙◌}
use Rattle.fields.proofs.Numbers.{uint-copied}
use Rattle.block.proofs.pair_at.Goals as goal

pub returns-in-Some : goal.returns-in-Some
returns-in-Some c =
    let copied = c.in-Some.ensures.bytes in
    c.pair_in.ensures ∙ rw (uint-copied 4 _ _ _ 8 copied 0 (omega arith), uint-copied 4 _ _ _ 8 copied 4 (omega arith), add-zero)
