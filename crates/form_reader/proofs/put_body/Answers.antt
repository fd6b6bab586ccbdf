use Rattle.form_reader.proofs.PartsPut.{body_put}
use Rattle.form_reader.proofs.put_body.Goals as goal

pub returns-clause-put : goal.returns-clause-put
returns-clause-put c =
    let read = c.put_parts-spelled.ensures in
    body_put c.args.form.now c.put_parts-spelled.result.0 c.put.ensures read.put c.put-2.ensures (rw c.from.ensures at c.part.ensures) read.bounds.0 c.put-3.ensures
