use Rattle.std.proofs.Common.{◌≤◌, ◌+◌, length, take, arith, sym, ◌∙◌}
use Rattle.fields.proofs.Slices.{lent_back, put-fitting, put-past}
use Rattle.fields.proofs.put_cut.Goals as goal

pub returns-then-at-s : goal.returns-then-at-s
returns-then-at-s c =
    let args = c.args in
    let n = c.min-n.result in
    let room : args.at + n ≤ length args.s.now = omega arith in
    lent_back (λ _. take n args.bytes.now) args.s.now args.at n c.copy_from_slice.new.self room c.copy_from_slice.ensures.len c.copy_from_slice.ensures.after
    ∙ put-fitting args.bytes.now args.s.now args.at n c.min-n.ensures

pub returns-else-at-s : goal.returns-else-at-s
returns-else-at-s c = sym (put-past _ _ _ c.if-at-s.false)
