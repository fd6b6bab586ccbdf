-- What is answered and left where the unit's own block, which is whole, is judged. Assumes nothing.
use Prim.Native.Nat.{ℕ, ◌≤◌}
use mathlib.Core.Path.{◌≡◌}
use mathlib.Core.Bool.{true}
use mathlib.Core.List.{List}
use lib.Dec.{eqb}
use Rattle.report.specs.declared.Head.{Head}
use Rattle.report.specs.Report.{most_parts, head_of, part_count_of}
use Rattle.rules.specs.Judge.{told, judge}
use Rattle.rules.specs.Block.{unit_head}
use Rattle.rules.specs.Whole.{block_whole}
use Rattle.rules.specs.declared.Refusal.{Refusal}
use Rattle.rules.proofs.BlockLaws.{ok-size}
use Rattle.std.specs.Prelude.{Result, Ok, Err, is_ok}
use Rattle.judge.specs.declared.Decision.{Decision}
use Rattle.judge.specs.Decided.{decision_of}
use Rattle.judge.specs.Warned.{warnings_on}
use Rattle.after.specs.Plan.{plan_applied}
use Rattle.desk.proofs.Answers.{Is, refuses, accepts}
use Rattle.desk.proofs.Free.{block-free}

module _ (b s : List ℕ) {d : Result Decision Refusal} (decided : d ≡ decision_of b s) where
  -- a refusal that is handed up
  module _ {x : Refusal} (e : d ≡ Err x) where
    pub refused_value : {r : Result ℕ Refusal} → r ≡ Err x → told r ≡ (judge b s).answer
    refused_value h = rw h (refuses b s decided e).value

    pub refused_ok : {r : Result ℕ Refusal} → r ≡ Err x → is_ok r ≡ eqb (judge b s).answer.number 0
    refused_ok h = rw h (refuses b s decided e).accepted

    pub refused_after : b ≡ (judge b s).after
    refused_after = (refuses b s decided e).after

  module _ (whole-block : block_whole (unit_head b).unit b ≡ true) (few : part_count_of s ≤ most_parts) {y : Decision} (e : d ≡ Ok y)
      {left : List ℕ} {h : Head} {w : ℕ} (p : left ≡ plan_applied b s (record { cleared = y.cleared; written = y.written; changes = y.changes }))
      (head : h ≡ head_of s) (q : w ≡ warnings_on left h y.left) where
    accepted : Is (judge b s) (Ok w) left
    accepted = accepts b s decided (ok-size _ _ whole-block) (block-free _ _ whole-block) few e p head q

    pub accepted_value : told (Ok w) ≡ (judge b s).answer
    accepted_value = accepted.value

    pub accepted_ok : true ≡ eqb (judge b s).answer.number 0
    accepted_ok = accepted.accepted

    pub accepted_after : left ≡ (judge b s).after
    accepted_after = accepted.after
