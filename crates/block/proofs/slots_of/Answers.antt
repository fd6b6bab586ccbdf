use Rattle.std.proofs.Common.{◌≡◌, ◌/◌, ap, arith, ◌∙◌, length, length-drop, drop}
use Rattle.std.specs.Simd.{first_chunks}
use Rattle.rules.specs.Block.{head_size, slot_size, slot_count, slot_at}
use Rattle.fields.proofs.Chunks.{chunks}
use Rattle.block.proofs.slots_of.Goals as goal

pub returns : goal.returns
unfolding slot_at
returns c =
    let rest = drop head_size c.args.b.now in
    let count : length rest / slot_size ≡ slot_count = simp length-drop (omega arith) in
    c.as_chunks.ensures.front ∙ rw c.split_at.ensures.back (ap (λ k. first_chunks slot_size k rest) count ∙ chunks slot_size slot_count head_size c.args.b.now)
