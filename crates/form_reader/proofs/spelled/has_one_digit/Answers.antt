use Rattle.std.proofs.Common.{refl}
use Rattle.fields.specs.Lists.{part}
use Rattle.form_reader.proofs.spelled.has_one_digit.Goals as goal

pub returns : goal.returns
unfolding part
returns g c = rw (c.same.ensures, c.is_ascii_digit.ensures.value, c.told-name) refl
