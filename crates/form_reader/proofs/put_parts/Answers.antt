use Rattle.form_reader.proofs.SpelledWhole.{whole_told}
use Rattle.form_reader.proofs.put_parts.Goals as goal

pub returns-clause-spelled : goal.returns-clause-spelled
returns-clause-spelled c =
    let head = c.requires in
    let step = c.resolution_line-d.ensures in
    let points = c.put_points-e.ensures in
    let text = c.text_line-text_length.ensures in
    rw (c.parts_are_spelled.ensures, c.from.ensures)
    (whole_told c.args.s.now _ _ _ _ _ _ _ head.codes head.marks head.dates step.read points.count points.next text.read head.told
    step.told step.stays points.told text.told c.u8_at-there.ensures)
