use Rattle.rules.proofs.OneUnitAlone.{set-up-begins}
use Rattle.rules.proofs.AlikeLists.{accepted-at-desk, alike, entries-alike}
use Rattle.rules.proofs.alike_lists_leave_alike_blocks.Goals as goal

pub returns : goal.returns
returns c = record {
  accepted = λ roster buffer ok. accepted-at-desk _ _ (set-up-begins roster buffer ok);
  alike = λ unit roster buffer roster' buffer' ok ok' ss ss' a.
      alike unit (set-up-begins roster buffer ok) (set-up-begins roster' buffer' ok') ss ss'
      (entries-alike unit roster roster' ss ss' a);
}
