use mathlib.Core.Path.{ap, ◌∙◌}
use Prim.Native.Nat.{ℕ}
use lib.Dec.{eqb}
use Rattle.fields.specs.Fields.{u16_at}
use Rattle.fields.proofs.Numbers.{uint-halves}
use Rattle.report.specs.Report.{part_mark}
use Rattle.report.proofs.Sizes.{mark-alone}
use Rattle.report.proofs.part_marked.Goals as goal

pub returns : goal.returns
returns c =
    let part = c.args.part.now in
    ap (λ (x : ℕ). eqb x part_mark) (c.u32_at.ensures ∙ uint-halves part 0) ∙ mark-alone (u16_at part 0) (u16_at part 2)
