use Rattle.validation.proofs.Joins.{max-larger, over_none, over-more, over-all}
use Rattle.validation.proofs.ask_parts.Goals as goal

pub loop-i-init : goal.loop-i-init
loop-i-init c = over_none c.part_count-k.ensures

pub loop-i-preserved : goal.loop-i-preserved
loop-i-preserved c = over-more c.loop-i.invariant
    c.loop-i-test.true
    c.part_at-p.ensures c.part_is_times-times.ensures
    c.part_is_on_quarter-on_quarters.ensures c.is_signed_power-powers.ensures
    c.size_of.ensures (cc (max-larger c.loop-i.largest c.size_of.result))

pub returns : goal.returns
returns c = over-all c.loop-i.invariant c.loop-i-test.false c.derating_fits.ensures
