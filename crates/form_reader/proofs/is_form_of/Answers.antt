use Rattle.std.proofs.Common.{refl}
use Rattle.form_reader.proofs.FormRead.{told_so}
use Rattle.form_reader.proofs.is_form_of.Goals as goal

pub returns : goal.returns
returns c =
    let told = c.requires in
    rw (c.from.ensures, c.resolution.ensures.value)
    (told_so c.args.form.now told.0 told.1 told.2 c.has_form.ensures c.if-not-has_form.false refl)
