use Rattle.form_reader.proofs.SpelledPoints.{point_told}
use Rattle.form_reader.proofs.spelled_points.spelled_point.Goals as goal

pub returns-clause-told : goal.returns-clause-told
returns-clause-told c =
    let power = c.spelled_power-power_spelled.ensures in
    point_told c.args.grid c.number_at-n.ensures.read c.stands.ensures c.u8_at.ensures c.is_plain.ensures c.is_position.ensures.value c.is_position.ensures.early
    c.u8_at-2.ensures power.read power.told
