use Rattle.std.proofs.Common.{◌≡◌, rules, arith}
use Rattle.report.specs.Report.{head_of}
use Rattle.after.proofs.Written.{slot-written}
use Rattle.after.proofs.Accepted.write_slot.Goals as goal

pub returns : goal.returns
returns c =
    let s = c.args.self.now.report.now in
    let head : c.args.self.now.head ≡ head_of s = search rules in
    slot-written s c.args.z.now head c.clear.ensures c.record_by.ensures c.put_record.ensures c.put_pairs.ensures (omega arith) (omega arith)
