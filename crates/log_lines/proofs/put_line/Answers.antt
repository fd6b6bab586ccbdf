use Rattle.std.proofs.Common.{rules, arith}
use Rattle.texts.proofs.Texts.{then, all_put}
use Rattle.log_lines.proofs.put_line.Goals as goal

pub returns : goal.returns
returns g c =
    let new = c.new-text.ensures in
    rw c.end.ensures (all_put _ new.bytes new.end (then c.put_columns.ensures (then c.put_column.ensures c.put.ensures)) (search rules) (omega arith) (omega (arith, g.met.L.Lines.bounded)))
