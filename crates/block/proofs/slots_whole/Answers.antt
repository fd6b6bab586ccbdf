use Rattle.std.proofs.Common.{◌≡◌, [], rules, sym, ◌∙◌, take}
use Rattle.std.specs.List.{list_all}
use Rattle.std.proofs.lemmas.List.Elements.{All-from_get_or}
use Rattle.std.proofs.lemmas.Iterator.{YieldsList-from_slice}
use Rattle.std.proofs.lemmas.Iterator.Search.{all_from_yields_List}
use borrow.Author.Tests.{tests}
use lib.ListN.{length}
use Rattle.rules.specs.Block.{slot_size}
use Rattle.rules.specs.Whole.{slot_whole}
use Rattle.block.proofs.FreeSlots.{slots-free}
use Rattle.block.proofs.slots_whole.Goals as goal

pub returns-then-all : goal.returns-then-all
returns-then-all c =
    let taken : c.all.result ≡ list_all (slot_whole c.args.kind.0 c.args.last) (take c.args.end c.args.slots.now) =
    all_from_yields_List (slot_whole c.args.kind.0 c.args.last) _ _ _ c.all.ensures.ran
    (YieldsList-from_slice _ (c.iter.ensures.rest ∙ c.split_at.ensures.front)) (λ x b q k. search (rules, tests)) in
    let long = All-from_get_or (λ z. length z ≡ slot_size) c.args.slots.now [] c.told-slots in
    let both = slots-free c.args.kind.0 c.args.last c.args.slots.now c.args.end c.requires long in
    c.all_zero.ensures ∙ rw (c.as_flattened.ensures.value, c.split_at.ensures.back) (rw (sym taken ∙ c.if-all.true) at both)
