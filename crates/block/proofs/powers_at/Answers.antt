use Rattle.std.proofs.Common.{◌≡◌, ℕ, ◌≤◌, ◌+◌, arith, add-zero}
use Rattle.fields.specs.Fields.{uint_at}
use Rattle.fields.proofs.Numbers.{uint-copied}
use Rattle.block.proofs.powers_at.Goals as goal

pub returns : goal.returns
returns c =
    let s = c.args.s.now in
    let at = c.args.at in
    let p = c.bytes_at-powers.result in
    let number : (k : ℕ) → k + 4 ≤ 16 → uint_at 4 p k ≡ uint_at 4 s (at + k) = λ k l. uint-copied 4 s p at 16 c.bytes_at-powers.ensures k l in
    rw (c.range_at.ensures, c.range_at-2.ensures, number 0 (omega arith), number 4 (omega arith), number 8 (omega arith), number 12 (omega arith), add-zero)
