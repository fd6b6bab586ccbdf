use Prim.Native.Nat.{◌≤◌, ◌-◌}
use mathlib.Core.Path.{◌≡◌}
use lib.ListN.{length}
use Rattle.rules.specs.Block.{block_size}
use Rattle.after.proofs.Blocks.{progress}
use Rattle.after.proofs.Accepted.set_slots.Given as goal

abbrev pub invariant-loop-i : goal.invariant-loop-i
invariant-loop-i l = (l.i ≤ 8) × (length l.b ≡ block_size) × (l.b ≡ progress l.initial.b l.self.report.now l.fn.plan l.i)

abbrev pub decreases-loop-i : goal.decreases-loop-i
decreases-loop-i l = 8 - l.i
