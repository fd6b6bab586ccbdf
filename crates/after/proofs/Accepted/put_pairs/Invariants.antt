use mathlib.Core.Path.{◌≡◌}
use lib.ListN.{length}
use Prim.Native.Nat.{◌≤◌, ◌-◌}
use Rattle.fields.specs.Lists.{series, put}
use Rattle.report.specs.Report.{part_at}
use Rattle.rules.specs.After.{pair_bytes}
use Rattle.rules.specs.Block.{pairs_start}
use Rattle.after.proofs.Accepted.put_pairs.Given as goal

abbrev pub invariant-loop-j : goal.invariant-loop-j
invariant-loop-j l = (l.j ≤ l.self.head.part_count) × (length l.z ≡ length l.initial.z) × (l.z ≡ put l.initial.z pairs_start (pair_bytes (series (part_at l.self.report.now) 0 l.j)))

abbrev pub decreases-loop-j : goal.decreases-loop-j
decreases-loop-j l = l.self.head.part_count - l.j
