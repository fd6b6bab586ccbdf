use mir.Syntax.{w32}
use mir.ValLaws.{to_z-of_z}
use Rattle.quantities.proofs.signed_kilowatt_at.Goals as goal

pub returns : goal.returns
returns c = rw (to_z-of_z w32 _ (record { sfits = c.i32_at.type_inv }), c.i32_at.ensures)
