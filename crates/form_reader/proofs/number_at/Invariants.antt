use Rattle.form_reader.proofs.Scanned.{Scanned}
use Rattle.form_reader.proofs.number_at.Given as goal

abbrev pub invariant-loop-j : goal.invariant-loop-j
invariant-loop-j l = Scanned l.s l.at l.value l.j
