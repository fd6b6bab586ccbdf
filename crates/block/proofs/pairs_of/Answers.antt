use Rattle.std.proofs.Common.{◌≡◌, ◌/◌, ap, arith, ◌∙◌, length, length-drop, take, drop}
use Rattle.std.specs.Simd.{first_chunks}
use Rattle.report.specs.Report.{most_parts}
use Rattle.rules.specs.Block.{pairs_start, pair_size}
use Rattle.fields.proofs.Chunks.{chunks-take}
use Rattle.block.proofs.pairs_of.Goals as goal

pub returns : goal.returns
returns c =
    let rest = drop pairs_start c.args.z.now in
    let count : length rest / pair_size ≡ most_parts = simp length-drop (omega arith) in
    ap (take c.args.k) (c.as_chunks.ensures.front ∙ rw c.split_at.ensures.back (ap (λ k. first_chunks pair_size k rest) count))
    ∙ chunks-take pair_size c.args.k most_parts rest (omega arith)
