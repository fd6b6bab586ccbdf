use mathlib.Core.Path.{◌≡◌}
use lib.ListN.{length}
use Rattle.fields.specs.Lists.{joined, put}
use Rattle.setup.proofs.Laws.{fresh}
use Rattle.setup.proofs.write_blocks.Given as goal

abbrev pub invariant-loop-i : goal.invariant-loop-i
invariant-loop-i l =
    (length l.register ≡ length l.initial.register) × (l.register ≡ put l.initial.register 0 (joined (fresh l.entries) 1 l.i))
