use Rattle.std.proofs.Common.{◌≡◌, ◌+◌, ◌-◌, ◌*◌, ◌/◌, ◌≤◌, length}
use Rattle.batch.specs.Batch.{reports_here}
use Rattle.batch.proofs.Batches.{rest, Left}
use Rattle.batch.proofs.log_batch.Given as goal

abbrev pub invariant-loop : goal.invariant-loop
invariant-loop l =
    (l.batch.taken ≤ length l.input) × (l.batch.length + 128 * (l.end - l.counter) ≤ length l.text)
    × (length l.text ≡ length l.fn.text) × (l.end ≡ length l.fn.text / 128)
    × Left l.fn.so_far l.fn.register l.fn.text (reports_here l.end l.fn.register l.input l.ended) l.batch l.register l.text
    (rest l.input l.ended l.batch l.register (l.end - l.counter))
