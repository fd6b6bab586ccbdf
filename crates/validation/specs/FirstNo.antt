-- Questions asked one after another: "the first "no" is the refusal".
use Rattle.std.specs.Prelude.{ℕ, List, eqb, Result, Ok, Err, ⊤}
use Rattle.fields.specs.Lists.{pick}
use Rattle.report.specs.declared.Head.{Head}
use Rattle.report.specs.declared.Part.{Part}
use Rattle.rules.specs.declared.Refusal.{Refusal}
use Rattle.rules.specs.Judge.{part_beside}

infixr 40 ◌then◌
-- after "yes" the next is asked
abbrev pub ◌then◌ : {A : Type 0} → Result ⊤ Refusal → Result A Refusal → Result A Refusal
Ok _ then next = next
Err refusal then next = Err refusal

-- what the number of the first "no" hands on: at 0 the value, else the refusal, with the part that stands beside it
unfoldable pub outcome : {A : Type 0} → Head → List Part → ℕ → A → Result A Refusal
outcome h ps n value = pick (eqb n 0) (Ok value) (Err (record { number = n; part = part_beside n h ps }))
