use Rattle.std.proofs.Common.{rules, arith}
use Rattle.log_lines.specs.Log.{totals_line}
use Rattle.texts.proofs.Texts.{then, all_put}
use Rattle.log_lines.proofs.put_totals.Goals as goal

pub returns : goal.returns
unfolding totals_line
returns c =
    let new = c.new-text.ensures in
    let accepted = then (then c.put.ensures c.put_number.ensures) c.put_number-2.ensures in
    rw c.end.ensures (all_put _ new.bytes new.end (then (then accepted c.put_decimal.ensures) c.put-2.ensures) (search rules) (omega arith) (omega arith))
