use Rattle.std.proofs.Common.{arith, add-zero, ◌∙◌}
use Rattle.fields.proofs.Numbers.{uint-copied}
use Rattle.block.proofs.pair_past_end.Goals as goal

pub returns : goal.returns
returns c =
    let copied = c.bytes_at.ensures in
    c.pair_in.ensures ∙ rw (uint-copied 4 _ _ _ 8 copied 0 (omega arith), uint-copied 4 _ _ _ 8 copied 4 (omega arith), add-zero)
