use Rattle.report.proofs.+cover_after.Given as goal

abbrev pub decreases-cover_after : goal.decreases-cover_after
decreases-cover_after l = l.remaining
