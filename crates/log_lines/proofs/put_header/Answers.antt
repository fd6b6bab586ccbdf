use Rattle.std.proofs.Common.{rules, arith}
use Rattle.texts.proofs.Texts.{then, same_text, all_put}
use Rattle.log_lines.proofs.put_header.Goals as goal

pub returns : goal.returns
returns g c =
    let new = c.new-text.ensures in
    rw c.end.ensures (all_put _ new.bytes new.end (then (then c.put.ensures (same_text c.title.ensures.text c.title.ensures.upper_bound c.put-2.ensures)) c.put-3.ensures) (search rules) (omega arith) (omega arith))
