use Rattle.std.proofs.Common.{rules, arith}
use Rattle.texts.proofs.Texts.{then, all_put}
use Rattle.log_lines.proofs.put_number_line.Goals as goal

pub returns : goal.returns
returns c =
    let new = c.new-text.ensures in
    rw c.end.ensures (all_put _ new.bytes new.end (then (then c.put.ensures c.put_decimal.ensures) c.put-2.ensures) (search rules) (omega arith) (omega arith))
